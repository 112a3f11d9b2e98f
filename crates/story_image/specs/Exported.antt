-- A view in words, and what is asked under lent words of a view.
use Rattle.std.specs.Prelude.{ℕ, ◌+◌, ◌*◌, List, [], ◌∷◌, cond, length, get_or, leb, None, Option}
use Rattle.image.specs.declared.Section.{Section}
use Rattle.image.specs.declared.ImageView.{ImageView}
use Rattle.image.specs.Header.{version}
unfoldable pub use Rattle.answers.specs.Lent.{written_after}

abbrev section_then : Section → List ℕ → List ℕ
section_then s ws = s.offset ∷ s.count ∷ ws

-- a view: the ink version, then offset and count of each section
abbrev pub words_of_view : ImageView → List ℕ
words_of_view v =
    v.ink_version
    ∷ section_then v.nodes
    (section_then v.children
    (section_then v.named
    (section_then v.definitions
    (section_then v.items (section_then v.index (section_then v.payload (section_then v.strings [])))))))

abbrev pub view_length : ℕ
view_length = 17

-- the view that lent words give; they are those of an image of the one version there is
abbrev section_by : List ℕ → ℕ → Section
section_by ws k = record { offset = get_or ws (1 + 2 * k) 0; count = get_or ws (2 + 2 * k) 0 }

abbrev pub view_by : List ℕ → ImageView
view_by ws =
    record {
      version = version;
      ink_version = get_or ws 0 0;
      nodes = section_by ws 0;
      children = section_by ws 1;
      named = section_by ws 2;
      definitions = section_by ws 3;
      items = section_by ws 4;
      index = section_by ws 5;
      payload = section_by ws 6;
      strings = section_by ws 7;
    }

-- what a query answers under lent words of a view; too few words have no answer
unfoldable pub under : List ℕ → (ImageView → Option (List ℕ)) → Option (List ℕ)
under view query = cond (leb view_length (length view)) (query (view_by view)) None

-- work words that count: none where the lent view is too short
abbrev pub lent_words : ℕ → ℕ → ℕ
lent_words view work = cond (leb view_length view) work 0
