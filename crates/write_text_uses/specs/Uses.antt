-- The words of every text of a draft, in the order of use: two words a use, its offset and its length.
use Rattle.std.specs.Prelude.{ℕ, ◌+◌, ◌*◌, ◌/◌, ◌≤◌, ◌<◌, ◌≡◌, List, [], ◌∷◌, ◌++◌, cond, length, get_or, take, drop}
use Rattle.laws.specs.Counted.{join_of, counted}
use Rattle.laws.specs.Lists.{flat_map, lists}
use Rattle.words.specs.Words.{word_at}
use Rattle.image.specs.Sections.{Sections, node_words, text_entry_words, node_count, named_count, definition_count, item_count, tag_of, f, absent, definition_word, item_word, sections, list_head_size, list_item_size, list_origin_size}
use Rattle.image.specs.Tags.{list_tag}
use Rattle.image.specs.declared.EntryCounts.{EntryCounts}
use Rattle.image.specs.Counted.{counts_with}
use Rattle.records.specs.Fields.{Field, text, optional, command, operator, node, optionalNode, container, optionalContainer, plain, at_most, children, named, payload, wrong}
use Rattle.records.specs.Records.{fields_at, number_of_named, list_items, list_origins, list_item_word, list_origin_word, records}
use Rattle.tree.specs.Tree.{named_at}
use Rattle.definitions.specs.Definitions.{first_item, number_of_items}
use Rattle.draft.specs.Source.{draft_of, nodes_only}
use Rattle.draft.specs.Numbering.{numbering, old_of}
use Rattle.draft_image.specs.Strings.{by_path, stored_texts}
use Rattle.draft_image.specs.Ready.{text_uses}

-- a text that may be absent
unfoldable pub use_if : ℕ → ℕ → List ℕ
use_if at len = cond (absent at len) [] (at ∷ len ∷ [])

-- ---- the list whose payload starts at `at`

-- item j: the origin, if it has one, then the name
unfoldable pub list_item_pairs : Sections → ℕ → ℕ → List ℕ
list_item_pairs s at j = use_if (list_item_word s at j 0) (list_item_word s at j 1) ++ (list_item_word s at j 2 ∷ list_item_word s at j 3 ∷ [])

unfoldable pub list_origin_pairs : Sections → ℕ → ℕ → List ℕ
list_origin_pairs s at j = list_origin_word s at j 0 ∷ list_origin_word s at j 1 ∷ []

-- in payload order
unfoldable pub list_pairs : Sections → ℕ → List ℕ
list_pairs s at = join_of (list_items s at) (list_item_pairs s at) ++ join_of (list_origins s at) (list_origin_pairs s at)

-- ---- nodes, named entries, definitions

unfoldable pub field_pairs : Sections → ℕ → Field → List ℕ
field_pairs s i (text k) = f s i k ∷ f s i (k + 1) ∷ []
field_pairs s i (optional k) = use_if (f s i k) (f s i (k + 1))
field_pairs s i (command k) = f s i k ∷ f s i (k + 1) ∷ []
field_pairs s i (operator k) = f s i k ∷ f s i (k + 1) ∷ []
field_pairs s i payload = list_pairs s (f s i 0)
field_pairs s i (node k) = []
field_pairs s i (optionalNode k) = []
field_pairs s i (container k) = []
field_pairs s i (optionalContainer k) = []
field_pairs s i (plain k) = []
field_pairs s i (at_most k n) = []
field_pairs s i children = []
field_pairs s i named = []
field_pairs s i wrong = []

-- the texts of node i in field order, a list's at its node
abbrev pub node_pairs : Sections → ℕ → List ℕ
node_pairs s i = flat_map (field_pairs s i) (fields_at s i)

-- the named entries of node i
unfoldable pub named_pairs : Sections → ℕ → List ℕ
named_pairs s i = join_of (number_of_named s i) (λ j. named_at s i j 0 ∷ named_at s i j 1 ∷ [])

-- definition d, then its items
unfoldable pub definition_pairs : Sections → ℕ → List ℕ
definition_pairs s d =
    (definition_word s d 0 ∷ definition_word s d 1 ∷ [])
    ++ join_of (number_of_items s d) (λ j. item_word s (first_item s d + j) 0 ∷ item_word s (first_item s d + j) 1 ∷ [])

-- ---- all of them: nodes, named entries, definitions with their items

unfoldable pub all_node_pairs : Sections → List ℕ → List ℕ
all_node_pairs s order = join_of (node_count s) (λ j. node_pairs s (old_of order j))

unfoldable pub all_named_pairs : Sections → List ℕ → List ℕ
all_named_pairs s order = join_of (node_count s) (λ j. named_pairs s (old_of order j))

unfoldable pub all_definition_pairs : Sections → List ℕ
all_definition_pairs s = join_of (definition_count s) (definition_pairs s)

unfoldable pub use_words : Sections → List ℕ → List ℕ
use_words s order = all_node_pairs s order ++ all_named_pairs s order ++ all_definition_pairs s

-- as many texts, and one more a container, are no more than this
abbrev pub uses_most : Sections → ℕ
uses_most s = 2 * node_count s + named_count s + definition_count s + item_count s + length s.payload

-- the texts in use and the paths, each stored once, one after the other
abbrev pub stored_bytes : Sections → List ℕ
stored_bytes s = flat_map (λ t. t) (stored_texts s (numbering s))

-- the counts of a draft's image: a path for each container, and these bytes
abbrev pub image_counts : Sections → EntryCounts
image_counts s = counts_with s (length (by_path s (numbering s))) (length (stored_bytes s))

-- ---- the same of words and bytes, as the code reads them

-- origin j of those that begin at a byte
unfoldable pub origin_pairs : List ℕ → ℕ → ℕ → List ℕ
origin_pairs bytes first j = word_at bytes (first + j * list_origin_size) ∷ word_at bytes (first + j * list_origin_size + 4) ∷ []

-- entry j, counted from the first, of those of three words
unfoldable pub entry_pairs : List ℕ → ℕ → ℕ → List ℕ
entry_pairs entries first j = get_or entries ((first + j) * text_entry_words) 0 ∷ get_or entries ((first + j) * text_entry_words + 1) 0 ∷ []

-- ---- words that lie among others

-- n words from `at` on
abbrev pub words_from : List ℕ → ℕ → ℕ → List ℕ
words_from w at n = take n (drop at w)

-- the words with others from `at` on
abbrev pub with_words : List ℕ → ℕ → List ℕ → List ℕ
with_words w at ws = take at w ++ ws ++ drop (at + length ws) w

-- words fit from `at` on
pub record Room (ws w : List ℕ) (at : ℕ) : Type 0 where
  pub fits : at + length ws ≤ length w

-- words were written from `at` on, and end at r
pub record Put (ws w₀ : List ℕ) (at : ℕ) (w : List ℕ) (r : ℕ) : Type 0 where
  pub end : r ≡ at + length ws
  pub is : w ≡ with_words w₀ at ws

-- ---- what is read of a draft

-- a draft that has a payload alone; nodes and named entries; definitions and items. Where there are no nodes, the
-- version says nothing
abbrev pub payload_only : List ℕ → Sections
payload_only bytes = draft_of 0 [] [] [] [] [] bytes []

abbrev pub named_only : ℕ → List ℕ → List ℕ → Sections
named_only version nodes entries = draft_of version nodes [] entries [] [] [] []

abbrev pub definitions_only : List ℕ → List ℕ → Sections
definitions_only definitions items = draft_of 0 [] [] [] definitions items [] []

-- the list whose payload starts at `at` lies inside
abbrev pub ListInside : Sections → ℕ → Type 0
ListInside s at = at + list_head_size + list_items s at * list_item_size + list_origins s at * list_origin_size ≤ length s.payload

-- the numbers of n nodes are below n
pub record Olds (n : ℕ) (order : List ℕ) : Type 0 where
  pub below : (j : ℕ) → j < n → old_of order j < n

-- the numbers are nodes, and the lists lie inside
pub record Readable (s : Sections) (order : List ℕ) : Type 0 where
  pub olds : Olds (node_count s) order
  pub lists : (i : ℕ) → i < node_count s → tag_of s i ≡ list_tag → ListInside s (f s i 0)

-- what is asked of the work words and the draft: the numbers of the nodes lie from `order` on, and the uses have room below them
pub record Collectable (version : ℕ) (nodes entries definitions items bytes w : List ℕ) (order at : ℕ) : Type 0 where
  pub read : Readable (nodes_only version nodes bytes) (words_from w order (length nodes / node_words version))
  pub numbers : order + length nodes / node_words version ≤ length w
  pub below : at + length (use_words (draft_of version nodes [] entries definitions items bytes []) (words_from w order (length nodes / node_words version))) ≤ order

-- the uses were written from `at` on, and r counts them
pub record Collected (s : Sections) (order w₀ : List ℕ) (at : ℕ) (w : List ℕ) (r : ℕ) : Type 0 where
  pub count : r ≡ length (text_uses s order)
  pub is : w ≡ with_words w₀ at (use_words s order)

-- names on an `unfolding` line what a computation with this module needs
unfoldable pub useds : Unit {0}
unfolding use_if list_item_pairs list_origin_pairs list_pairs field_pairs named_pairs definition_pairs all_node_pairs all_named_pairs all_definition_pairs use_words origin_pairs entry_pairs records counted lists sections
useds = tt
