-- The sleeper's view of an image: versions, and how many entries the sections have. Where they lie follows from that, as each begins where
-- the one before ends; the strings are what is left of the bytes behind the payload.
use Rattle.std.specs.Prelude.{ℕ, ◌+◌, ◌*◌, ◌-◌, List, [], ◌∷◌, Bool, cond, ◌&&◌, length, get_or, leb, Err, Ok, Result}
use Rattle.laws.specs.Counted.{sum_of, counted}
use Rattle.words.specs.Words.{NONE}
use Rattle.image.specs.declared.Section.{Section}
use Rattle.image.specs.declared.ImageView.{ImageView}
use Rattle.image.specs.Sections.{Sections}
use Rattle.image.specs.Header.{header_length, sizes, sections_by, headers}
use Rattle.load.specs.Load.{loaded_of}
use Rattle.sleeper.specs.declared.SleeperView.{SleeperView}

-- what the sleeper's view keeps of a view
abbrev pub without_places : ImageView → SleeperView
without_places v =
    record {
      version = v.version;
      ink_version = v.ink_version;
      nodes = v.nodes.count;
      children = v.children.count;
      named = v.named.count;
      definitions = v.definitions.count;
      items = v.items.count;
      index = v.index.count;
      payload = v.payload.count;
    }

-- the counts of sections 0 to 6
abbrev pub counts_of : SleeperView → List ℕ
counts_of v = v.nodes ∷ v.children ∷ v.named ∷ v.definitions ∷ v.items ∷ v.index ∷ v.payload ∷ []

-- where section k begins by the counts before it
unfoldable pub start_of : SleeperView → ℕ → ℕ
start_of v k = header_length + sum_of k (λ j. get_or (counts_of v) j 0 * get_or (sizes v.version) j 0)

abbrev pub section_by : ℕ → ℕ → Section
section_by offset count = record { offset = offset; count = count }

abbrev pub placed_at : SleeperView → ℕ → Section
placed_at v k = section_by (start_of v k) (get_or (counts_of v) k 0)

-- sections 0 to 6 lie in so many bytes, and words can bound them
unfoldable pub fits : ℕ → SleeperView → Bool
fits n v = leb n NONE && leb (start_of v 7) n

-- the sections one behind the other, the strings up to the end of so many bytes
abbrev pub placed : ℕ → SleeperView → ImageView
placed n v =
    record {
      version = v.version;
      ink_version = v.ink_version;
      nodes = placed_at v 0;
      children = placed_at v 1;
      named = placed_at v 2;
      definitions = placed_at v 3;
      items = placed_at v 4;
      index = placed_at v 5;
      payload = placed_at v 6;
      strings = section_by (start_of v 7) (n - start_of v 7);
    }

-- every section empty
abbrev pub unplaced : SleeperView → ImageView
unplaced v =
    record {
      version = v.version;
      ink_version = v.ink_version;
      nodes = section_by 0 0;
      children = section_by 0 0;
      named = section_by 0 0;
      definitions = section_by 0 0;
      items = section_by 0 0;
      index = section_by 0 0;
      payload = section_by 0 0;
      strings = section_by 0 0;
    }

-- the view of an image of so many bytes
unfoldable pub with_places : ℕ → SleeperView → ImageView
with_places n v = cond (fits n v) (placed n v) (unplaced v)

-- the sections that a query of the sleeper's reader sees
unfoldable pub sleeper_sections : List ℕ → SleeperView → Sections
sleeper_sections bs v = sections_by bs (with_places (length bs) v)

-- what a load answers the sleeper's reader
abbrev pub loaded_seen : Result ImageView ℕ → Result SleeperView ℕ
loaded_seen (Ok v) = Ok (without_places v)
loaded_seen (Err n) = Err n

unfoldable pub sleeper_loaded : List ℕ → ℕ → Result SleeperView ℕ
sleeper_loaded bs work = loaded_seen (loaded_of bs work)

-- names on an `unfolding` line what a computation with this module needs
unfoldable pub readers : Unit {0}
unfolding start_of fits with_places sleeper_sections sleeper_loaded headers counted
readers = tt
