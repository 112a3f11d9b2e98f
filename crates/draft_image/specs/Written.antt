-- The sections that a draft is written as: `order` is the numbering, `kept` the stored texts.
use Rattle.std.specs.Prelude.{ℕ, ◌+◌, ◌-◌, List, [], ◌∷◌, ◌++◌, cond, length, get_or, replicate, eqb}
use Rattle.std.proofs.lemmas.List.Edits.{sets}
use Rattle.laws.specs.Counted.{join_of, sum_of, counted}
use Rattle.laws.specs.Lists.{flat_map, place_in, lists}
use Rattle.words.specs.Words.{NONE, bytes_of, words}
use Rattle.image.specs.Sections.{Sections, common_words, node_words, node_count, definition_count, item_count, node_word, parent_of, place_of, tag_of, f, definition_word, item_word, text_at}
use Rattle.image.specs.Tags.{list_tag}
use Rattle.records.specs.Fields.{Field, text, optional, command, operator, node, optionalNode, container, optionalContainer, plain, at_most, children, named, payload, wrong}
use Rattle.records.specs.Records.{fields_at, number_of_children, number_of_named, payload_length_of, list_items, list_origins, list_item_word, list_origin_word}
use Rattle.tree.specs.Tree.{child_at, named_at, named_text}
use Rattle.definitions.specs.Definitions.{definition_text, item_text}
use Rattle.draft.specs.Numbering.{numbering, old_of, new_of, numberings}
use Rattle.draft_image.specs.Strings.{by_path, path_of, stored_texts, text_words, optional_words, strings}

-- the sum of b at the nodes that come before node i in the new numbering
unfoldable pub start_in : (ℕ → ℕ) → List ℕ → ℕ → ℕ
start_in b order i = sum_of (place_in order i) (λ m. b (old_of order m))

-- the first word of a field
abbrev pub field_start : Field → ℕ
field_start (text k) = k
field_start (optional k) = k
field_start (command k) = k
field_start (operator k) = k
field_start (node k) = k
field_start (optionalNode k) = k
field_start (container k) = k
field_start (optionalContainer k) = k
field_start (plain k) = k
field_start (at_most k n) = k
field_start children = 3
field_start named = 5
field_start payload = 0
field_start wrong = 0

module _ (s : Sections) (order : List ℕ) (kept : List (List ℕ)) where
  -- the words of a field of the draft's node i
  unfoldable pub field_words : ℕ → Field → List ℕ
  field_words i (text k) = text_words kept (text_at s (f s i k) (f s i (k + 1)))
  field_words i (optional k) = optional_words s kept (f s i k) (f s i (k + 1))
  field_words i (command k) = text_words kept (text_at s (f s i k) (f s i (k + 1)))
  field_words i (operator k) = text_words kept (text_at s (f s i k) (f s i (k + 1)))
  field_words i (node k) = new_of order (f s i k) ∷ []
  field_words i (optionalNode k) = new_of order (f s i k) ∷ []
  field_words i (container k) = new_of order (f s i k) ∷ []
  field_words i (optionalContainer k) = new_of order (f s i k) ∷ []
  field_words i (plain k) = f s i k ∷ []
  field_words i (at_most k n) = f s i k ∷ []
  field_words i children = start_in (number_of_children s) order i ∷ f s i 4 ∷ []
  field_words i named = start_in (number_of_named s) order i ∷ f s i 6 ∷ []
  field_words i payload = start_in (payload_length_of s) order i ∷ f s i 1 ∷ []
  field_words i wrong = []

  unfoldable pub put_fields : ℕ → List ℕ → List Field → List ℕ
  put_fields i ws [] = ws
  put_fields i ws (x ∷ xs) = put_fields i (sets ws (field_start x) (field_words i x)) xs

  -- words past f6, of which version 2 has none, are written as they stand
  unfoldable pub more_words : ℕ → List ℕ
  more_words i = join_of (node_words s.version - common_words) (λ k. node_word s i (common_words + k) ∷ [])

  -- fields that the kind lacks are NONE
  unfoldable pub node_out : ℕ → List ℕ
  node_out i = new_of order (parent_of s i) ∷ place_of s i ∷ tag_of s i ∷ put_fields i (replicate 7 NONE) (fields_at s i) ++ more_words i

  unfoldable pub children_out : ℕ → List ℕ
  children_out i = join_of (number_of_children s i) (λ j. new_of order (child_at s i j) ∷ [])

  unfoldable pub named_out : ℕ → List ℕ
  named_out i = join_of (number_of_named s i) (λ j. text_words kept (named_text s i j) ++ (new_of order (named_at s i j 2) ∷ []))

  unfoldable pub list_item_out : ℕ → ℕ → List ℕ
  list_item_out at j =
      optional_words s kept (list_item_word s at j 0) (list_item_word s at j 1) ++ text_words kept (text_at s (list_item_word s at j 2) (list_item_word s at j 3))
      ++ (list_item_word s at j 4 ∷ [])

  unfoldable pub list_origin_out : ℕ → ℕ → List ℕ
  list_origin_out at j = text_words kept (text_at s (list_origin_word s at j 0) (list_origin_word s at j 1))

  unfoldable pub list_out : ℕ → List ℕ
  list_out at = (list_items s at ∷ list_origins s at ∷ []) ++ join_of (list_items s at) (list_item_out at) ++ join_of (list_origins s at) (list_origin_out at)

  unfoldable pub payload_out : ℕ → List ℕ
  payload_out i = cond (eqb (tag_of s i) list_tag) (bytes_of (list_out (f s i 0))) []

  unfoldable pub definition_out : ℕ → List ℕ
  definition_out d = text_words kept (definition_text s d) ++ (definition_word s d 2 ∷ definition_word s d 3 ∷ [])

  unfoldable pub item_out : ℕ → List ℕ
  item_out j = text_words kept (item_text s j) ++ (item_word s j 2 ∷ [])

  -- the index entry of the image's node j
  unfoldable pub index_out : ℕ → List ℕ
  index_out j = text_words kept (path_of s order j) ++ (j ∷ [])

  unfoldable pub written_with : Sections
  written_with =
      record {
        version = s.version;
        nodes = join_of (node_count s) (λ j. node_out (old_of order j));
        children = join_of (node_count s) (λ j. children_out (old_of order j));
        named = join_of (node_count s) (λ j. named_out (old_of order j));
        definitions = join_of (definition_count s) definition_out;
        items = join_of (item_count s) item_out;
        index = join_of (length (by_path s order)) (λ k. index_out (get_or (by_path s order) k 0));
        payload = join_of (node_count s) (λ j. payload_out (old_of order j));
        strings = flat_map (λ t. t) kept;
      }

unfoldable pub written : Sections → Sections
written s = written_with s (numbering s) (stored_texts s (numbering s))

-- names on an `unfolding` line what a computation with this module needs
unfoldable pub writtens : Unit {0}
unfolding start_in field_words put_fields more_words node_out children_out named_out list_item_out list_origin_out list_out payload_out definition_out item_out index_out written_with written numberings strings counted lists words
writtens = tt
