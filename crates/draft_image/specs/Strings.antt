-- The texts of a written image: each stored once, at its first use.
use Rattle.std.specs.Prelude.{ℕ, ◌+◌, List, [], ◌∷◌, ◌++◌, map, cond, length}
use Rattle.laws.specs.Counted.{join_of, those, counted}
use Rattle.laws.specs.Lists.{flat_map, lists}
use Rattle.laws.specs.Sorted.{isort, insertions}
use Rattle.words.specs.Words.{NONE}
use Rattle.texts.specs.Text.{same, by_key, holds, texts}
use Rattle.image.specs.Sections.{Sections, node_count, definition_count, f, text_at, absent, is_container, sections}
use Rattle.records.specs.Fields.{Field, text, optional, command, operator, node, optionalNode, container, optionalContainer, plain, at_most, children, named, payload, wrong}
use Rattle.records.specs.Records.{fields_at, number_of_named, list_items, list_origins, list_item_word, list_origin_word, records}
use Rattle.tree.specs.Tree.{named_text}
use Rattle.index.specs.Paths.{canonical_path, paths}
use Rattle.definitions.specs.Definitions.{definition_text, number_of_items, item_text_of, definitions}
use Rattle.draft.specs.Numbering.{old_of}

-- ---- containers by their paths

-- the canonical path of the image's node j
abbrev pub path_of : Sections → List ℕ → ℕ → List ℕ
path_of s order j = canonical_path s (old_of order j)

-- the image's containers, in the text order of their paths
unfoldable pub by_path : Sections → List ℕ → List ℕ
by_path s order = isort (by_key (path_of s order)) (those (node_count s) (λ j. is_container s (old_of order j)))

-- ---- the texts in the order of their use

abbrev pub text_if : Sections → ℕ → ℕ → List (List ℕ)
text_if s at len = cond (absent at len) [] (text_at s at len ∷ [])

-- the texts of the list whose payload starts at `at`, in payload order
unfoldable pub list_texts : Sections → ℕ → List (List ℕ)
list_texts s at =
    join_of (list_items s at)
    (λ j. text_if s (list_item_word s at j 0) (list_item_word s at j 1) ++ (text_at s (list_item_word s at j 2) (list_item_word s at j 3) ∷ []))
    ++ join_of (list_origins s at) (λ j. text_at s (list_origin_word s at j 0) (list_origin_word s at j 1) ∷ [])

unfoldable pub field_texts : Sections → ℕ → Field → List (List ℕ)
field_texts s i (text k) = text_at s (f s i k) (f s i (k + 1)) ∷ []
field_texts s i (optional k) = text_if s (f s i k) (f s i (k + 1))
field_texts s i (command k) = text_at s (f s i k) (f s i (k + 1)) ∷ []
field_texts s i (operator k) = text_at s (f s i k) (f s i (k + 1)) ∷ []
field_texts s i payload = list_texts s (f s i 0)
field_texts s i (node k) = []
field_texts s i (optionalNode k) = []
field_texts s i (container k) = []
field_texts s i (optionalContainer k) = []
field_texts s i (plain k) = []
field_texts s i (at_most k n) = []
field_texts s i children = []
field_texts s i named = []
field_texts s i wrong = []

abbrev pub node_texts : Sections → ℕ → List (List ℕ)
node_texts s i = flat_map (field_texts s i) (fields_at s i)

unfoldable pub named_texts : Sections → ℕ → List (List ℕ)
named_texts s i = join_of (number_of_named s i) (λ j. named_text s i j ∷ [])

unfoldable pub definition_texts : Sections → ℕ → List (List ℕ)
definition_texts s d = definition_text s d ∷ join_of (number_of_items s d) (λ j. item_text_of s d j ∷ [])

-- nodes in field order, named entries, definitions with their items, index in text order
unfoldable pub uses : Sections → List ℕ → List (List ℕ)
uses s order =
    join_of (node_count s) (λ j. node_texts s (old_of order j))
    ++ join_of (node_count s) (λ j. named_texts s (old_of order j))
    ++ join_of (definition_count s) (definition_texts s)
    ++ map (path_of s order) (by_path s order)

-- ---- each stored once

-- the texts without those that came before
unfoldable pub distinct : List (List ℕ) → List (List ℕ) → List (List ℕ)
distinct kept [] = kept
distinct kept (t ∷ ts) = distinct (cond (holds kept t) kept (kept ++ (t ∷ []))) ts

unfoldable pub stored_texts : Sections → List ℕ → List (List ℕ)
stored_texts s order = distinct [] (uses s order)

-- where a text stands, the stored texts one after the other
unfoldable pub offset_of : List (List ℕ) → List ℕ → ℕ
offset_of [] t = 0
offset_of (x ∷ xs) t = let r = offset_of xs t in cond (same t x) 0 (length x + r)

-- the words of a text; of one that may be absent
abbrev pub text_words : List (List ℕ) → List ℕ → List ℕ
text_words kept t = offset_of kept t ∷ length t ∷ []

abbrev pub optional_words : Sections → List (List ℕ) → ℕ → ℕ → List ℕ
optional_words s kept at len =
    cond (absent at len) NONE (offset_of kept (text_at s at len)) ∷ cond (absent at len) NONE (length (text_at s at len)) ∷ []

-- names on an `unfolding` line what a computation with this module needs
unfoldable pub strings : Unit {0}
unfolding by_path list_texts field_texts named_texts definition_texts uses distinct stored_texts offset_of records paths definitions counted lists insertions texts sections
strings = tt
