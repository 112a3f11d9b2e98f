-- Small images and drafts that the tables speak of.
use Rattle.std.specs.Prelude.{ℕ, List, [], ◌∷◌, ◌++◌, length, take, replicate}
use Rattle.words.specs.Words.{NONE}
use Rattle.texts.specs.Text.{ascii}
use Rattle.image.specs.Sections.{Sections}
use Rattle.draft.specs.Source.{draft_of}

-- the smallest image, and 88 bytes with no sections, byte by byte
unfoldable pub smallest_image : List ℕ
smallest_image =
    66 ∷ 76 ∷ 73 ∷ 78 ∷ 75 ∷ 73 ∷ 77 ∷ 71 ∷ 2 ∷ 0 ∷ 0 ∷ 0 ∷ 21 ∷ 0 ∷ 0 ∷ 0 ∷ 140 ∷ 0 ∷ 0 ∷ 0 ∷ 88 ∷ 0 ∷ 0 ∷ 0 ∷ 1 ∷ 0 ∷ 0 ∷ 0 ∷
    128 ∷ 0 ∷ 0 ∷ 0 ∷ 0 ∷ 0 ∷ 0 ∷ 0 ∷ 128 ∷ 0 ∷ 0 ∷ 0 ∷ 0 ∷ 0 ∷ 0 ∷ 0 ∷ 128 ∷ 0 ∷ 0 ∷ 0 ∷ 0 ∷ 0 ∷ 0 ∷ 0 ∷ 128 ∷ 0 ∷ 0 ∷ 0 ∷ 0 ∷ 0
    ∷ 0 ∷ 0 ∷ 128 ∷ 0 ∷ 0 ∷ 0 ∷ 1 ∷ 0 ∷ 0 ∷ 0 ∷ 140 ∷ 0 ∷ 0 ∷ 0 ∷ 0 ∷ 0 ∷ 0 ∷ 0 ∷ 140 ∷ 0 ∷ 0 ∷ 0 ∷ 0 ∷ 0 ∷ 0 ∷ 0 ∷ 44 ∷ 22 ∷ 251
    ∷ 221 ∷ 255 ∷ 255 ∷ 255 ∷ 255 ∷ 255 ∷ 255 ∷ 255 ∷ 255 ∷ 1 ∷ 0 ∷ 0 ∷ 0 ∷ 255 ∷ 255 ∷ 255 ∷ 255 ∷ 255 ∷ 255 ∷ 255 ∷ 255 ∷ 0 ∷ 0
    ∷ 0 ∷ 0 ∷ 0 ∷ 0 ∷ 0 ∷ 0 ∷ 0 ∷ 0 ∷ 0 ∷ 0 ∷ 0 ∷ 0 ∷ 0 ∷ 0 ∷ 0 ∷ 0 ∷ 0 ∷ 0 ∷ 0 ∷ 0 ∷ 0 ∷ 0 ∷ 0 ∷ 0 ∷ 0 ∷ 0 ∷ 0 ∷ 0 ∷ 0 ∷ 0 ∷ []

unfoldable pub header_alone : List ℕ
header_alone =
    66 ∷ 76 ∷ 73 ∷ 78 ∷ 75 ∷ 73 ∷ 77 ∷ 71 ∷ 2 ∷ 0 ∷ 0 ∷ 0 ∷ 21 ∷ 0 ∷ 0 ∷ 0 ∷ 88 ∷ 0 ∷ 0 ∷ 0 ∷ 88 ∷ 0 ∷ 0 ∷ 0 ∷ 0 ∷ 0 ∷ 0 ∷ 0 ∷ 88
    ∷ 0 ∷ 0 ∷ 0 ∷ 0 ∷ 0 ∷ 0 ∷ 0 ∷ 88 ∷ 0 ∷ 0 ∷ 0 ∷ 0 ∷ 0 ∷ 0 ∷ 0 ∷ 88 ∷ 0 ∷ 0 ∷ 0 ∷ 0 ∷ 0 ∷ 0 ∷ 0 ∷ 88 ∷ 0 ∷ 0 ∷ 0 ∷ 0 ∷ 0 ∷ 0 ∷ 0
    ∷ 88 ∷ 0 ∷ 0 ∷ 0 ∷ 0 ∷ 0 ∷ 0 ∷ 0 ∷ 88 ∷ 0 ∷ 0 ∷ 0 ∷ 0 ∷ 0 ∷ 0 ∷ 0 ∷ 88 ∷ 0 ∷ 0 ∷ 0 ∷ 0 ∷ 0 ∷ 0 ∷ 0 ∷ 39 ∷ 196 ∷ 49 ∷ 85 ∷ []

-- a container without named children: parent, place, offset and length of its name, start and count of its children
unfoldable pub container_words : ℕ → ℕ → ℕ → ℕ → ℕ → ℕ → List ℕ
container_words parent place name_at nameLength start count = parent ∷ place ∷ 1 ∷ name_at ∷ nameLength ∷ 0 ∷ start ∷ count ∷ 0 ∷ 0 ∷ []

-- a node whose fields start with the given ones and are else NONE
unfoldable pub node_entry : ℕ → ℕ → ℕ → List ℕ → List ℕ
node_entry parent place tag fs = parent ∷ place ∷ tag ∷ take 7 (fs ++ replicate 7 NONE)

unfoldable pub plain_sections : List ℕ → List ℕ → List ℕ → List ℕ → Sections
plain_sections nodes children index strings =
    record {
      version = 2;
      nodes = nodes;
      children = children;
      named = [];
      definitions = [];
      items = [];
      index = index;
      payload = [];
      strings = strings;
    }

-- a root alone, with the name that the two words say
unfoldable pub root_named : ℕ → ℕ → Sections
root_named at len = plain_sections (container_words NONE NONE at len 0 0) [] (0 ∷ 0 ∷ 0 ∷ []) []

-- the smallest draft: that root without a name, and no index
unfoldable pub root_draft : Sections
root_draft = draft_of 2 (container_words NONE NONE NONE NONE 0 0) [] [] [] [] [] []

-- a root with one ordered child, which is no container
unfoldable pub with_child : ℕ → List ℕ → Sections
with_child tag fs = plain_sections (container_words NONE NONE NONE NONE 0 1 ++ node_entry 0 0 tag fs) (1 ∷ []) (0 ∷ 0 ∷ 0 ∷ []) []

abbrev pub with_divert : ℕ → Sections
with_divert flags = with_child 4 (NONE ∷ NONE ∷ NONE ∷ NONE ∷ NONE ∷ 0 ∷ flags ∷ [])

-- a root with three glues and, in place 3, a nameless container, node 4; the index has the root and that container at the given text
unfoldable pub with_place3 : List ℕ → ℕ → Sections
with_place3 strings len =
    plain_sections
    (container_words NONE NONE NONE NONE 0 4 ++ node_entry 0 0 5 [] ++ node_entry 0 1 5 [] ++ node_entry 0 2 5 []
    ++ container_words 0 3 NONE NONE 4 0)
    (1 ∷ 2 ∷ 3 ∷ 4 ∷ []) (0 ∷ 0 ∷ 0 ∷ 0 ∷ len ∷ 4 ∷ []) strings

-- a root with a container named a, node 1; the index has the root, and that container at the given text
unfoldable pub with_a : List ℕ → ℕ → ℕ → Sections
with_a strings at len =
    plain_sections (container_words NONE NONE NONE NONE 0 1 ++ container_words 0 0 0 1 1 0) (1 ∷ []) (0 ∷ 0 ∷ 0 ∷ at ∷ len ∷ 1 ∷ []) strings

-- a container of place 0 and another below it, node 2, neither with a name; the index and its texts are given
unfoldable pub with_two_places : List ℕ → List ℕ → Sections
with_two_places index strings =
    plain_sections (container_words NONE NONE NONE NONE 0 1 ++ container_words 0 0 NONE NONE 1 1 ++ container_words 1 0 NONE NONE 2 0) (1 ∷ 2 ∷ []) index
    strings

-- a root with one named child, a container of place NONE, node 1, by the words of its name; that one has so many children, and nodes, children
-- and index go on as given. The strings begin with the text of the named entry, a
unfoldable pub without_place : ℕ → ℕ → ℕ → List ℕ → List ℕ → List ℕ → List ℕ → Sections
without_place name_at nameLength count nodes children index strings =
    record {
      version = 2;
      nodes =
          (NONE ∷ NONE ∷ 1 ∷ NONE ∷ NONE ∷ 0 ∷ 0 ∷ 0 ∷ 0 ∷ 1 ∷ []) ++ (0 ∷ NONE ∷ 1 ∷ name_at ∷ nameLength ∷ 0 ∷ 0 ∷ count ∷ 1 ∷ 0 ∷ []) ++ nodes;
      children = children;
      named = 0 ∷ 1 ∷ 1 ∷ [];
      definitions = [];
      items = [];
      index = 0 ∷ 0 ∷ 0 ∷ index;
      payload = [];
      strings = ascii "a" ++ strings;
    }

-- that container alone, filed under the text
abbrev pub alone_without_place : ℕ → ℕ → List ℕ → Sections
alone_without_place name_at nameLength text = without_place name_at nameLength 0 [] [] (1 ∷ length text ∷ 1 ∷ []) text

-- with a nameless container of place 0 in it, node 2
abbrev pub with_below : ℕ → ℕ → List ℕ → List ℕ → Sections
with_below name_at nameLength index text = without_place name_at nameLength 1 (1 ∷ 0 ∷ 1 ∷ NONE ∷ NONE ∷ 0 ∷ 1 ∷ 0 ∷ 1 ∷ 0 ∷ []) (2 ∷ []) index text

-- both filed under the beginning of the text
abbrev pub below_without_place : ℕ → ℕ → ℕ → List ℕ → Sections
below_without_place name_at nameLength len text = with_below name_at nameLength (1 ∷ len ∷ 1 ∷ 1 ∷ length text ∷ 2 ∷ []) text

-- node 2 filed under the text, and then no node under a
abbrev pub below_filed_first : ℕ → ℕ → List ℕ → Sections
below_filed_first name_at nameLength text = with_below name_at nameLength (1 ∷ length text ∷ 2 ∷ 0 ∷ 1 ∷ NONE ∷ []) text

-- a root, and definitions and items by their words
abbrev pub list_sections : List ℕ → List ℕ → List ℕ → Sections
list_sections definitions items strings =
    record {
      version = 2;
      nodes = container_words NONE NONE NONE NONE 0 0;
      children = [];
      named = [];
      definitions = definitions;
      items = items;
      index = 0 ∷ 0 ∷ 0 ∷ [];
      payload = [];
      strings = strings;
    }

-- definitions red and size that both hold low
unfoldable pub with_lists : Sections
with_lists = list_sections (0 ∷ 3 ∷ 0 ∷ 1 ∷ 6 ∷ 4 ∷ 1 ∷ 1 ∷ []) (3 ∷ 3 ∷ 1 ∷ 3 ∷ 3 ∷ 2 ∷ []) (ascii "redlowsize")

-- two definitions red, of which the first holds low and the second size
unfoldable pub two_reds : Sections
two_reds = list_sections (0 ∷ 3 ∷ 0 ∷ 1 ∷ 0 ∷ 3 ∷ 1 ∷ 1 ∷ []) (3 ∷ 3 ∷ 1 ∷ 6 ∷ 4 ∷ 2 ∷ []) (ascii "redlowsize")

-- red holds low; of the items of size the last is outside
unfoldable pub items_outside : Sections
items_outside = list_sections (0 ∷ 3 ∷ 0 ∷ 1 ∷ 6 ∷ 4 ∷ 1 ∷ 2 ∷ []) (3 ∷ 3 ∷ 1 ∷ 3 ∷ 3 ∷ 2 ∷ []) (ascii "redlowsize")

unfoldable pub examples : Unit {0}
unfolding smallest_image header_alone container_words node_entry plain_sections root_named root_draft with_child with_place3 with_a with_two_places without_place with_lists two_reds items_outside
examples = tt
