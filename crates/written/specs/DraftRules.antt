-- What the writer asks of a draft, rule by rule in plain words. What it takes is exactly this (proofs/DraftRules).
use Rattle.std.specs.Prelude.{ℕ, ◌+◌, ◌%◌, ◌≤◌, ◌<◌, ◌≡◌, ◌≢◌, true, length}
use mathlib.Core.List.{Memᴰ}
use Rattle.words.specs.Words.{NONE}
use Rattle.texts.specs.Text.{rising}
use Rattle.image.specs.Sections.{Sections, node_words, text_entry_words, definition_words, node_count, child_count, named_count, definition_count, item_count, parent_of, place_of, tag_of, child_word, named_word, definition_word, item_word, is_container}
use Rattle.image.specs.Tags.{container_tag}
use Rattle.image.specs.Header.{first_ink_version, last_ink_version}
use Rattle.records.specs.Fields.{Field}
use Rattle.records.specs.Records.{fields_at, number_of_children, number_of_named, children_before, named_before, payload_before}
use Rattle.tree.specs.Reach.{Reached}
use Rattle.index.specs.Paths.{canonical_path}
use Rattle.definitions.specs.Definitions.{definition_text, first_item, number_of_items, item_text_of, items_before}
use Rattle.draft.specs.Draft.{tables_rule, write_words, reach_rule, shape_rule, paths_rule}
use Rattle.draft_image.specs.Encode.{image_for, encode_rule}
use Rattle.promises.specs.Rules.{TextRight, NodeRight, FieldRight, ParentRight, ChildRight, NamedRight, NameOrPlace, Iff}

-- ---- 19: the tables

pub record DraftDefinitionRight (s : Sections) (d : ℕ) : Type 0 where
  pub text : TextRight s (definition_word s d 0) (definition_word s d 1)
  pub inside : first_item s d + number_of_items s d ≤ item_count s
  pub start : first_item s d ≡ items_before s d

-- by what is asked of the fields of a node
pub record TablesRightBy (s : Sections) (Right : ℕ → Field → Type 0) : Type 0 where
  -- sections of whole entries, and a node
  pub nodes-whole : length s.nodes % node_words s.version ≡ 0
  pub named-whole : length s.named % text_entry_words ≡ 0
  pub definitions-whole : length s.definitions % definition_words ≡ 0
  pub items-whole : length s.items % text_entry_words ≡ 0
  pub some : 0 < node_count s
  -- each field is right; a parent is a node, the root's aside
  pub fields : (i : ℕ) → i < node_count s → (x : Field) → Memᴰ x (fields_at s i) → Right i x
  pub parents : (i : ℕ) → i < node_count s → 0 < i → NodeRight s (parent_of s i)
  -- nothing is left over
  pub children-used : children_before s (node_count s) ≡ child_count s
  pub named-used : named_before s (node_count s) ≡ named_count s
  pub payload-used : payload_before s (node_count s) ≡ length s.payload
  -- entries
  pub child : (j : ℕ) → j < child_count s → NodeRight s (child_word s j)
  pub named-text : (j : ℕ) → j < named_count s → TextRight s (named_word s j 0) (named_word s j 1)
  pub named-node : (j : ℕ) → j < named_count s → NodeRight s (named_word s j 2)
  pub definition : (d : ℕ) → d < definition_count s → DraftDefinitionRight s d
  pub items-used : items_before s (definition_count s) ≡ item_count s
  pub item : (j : ℕ) → j < item_count s → TextRight s (item_word s j 0) (item_word s j 1)

-- the reader's rules of fields
abbrev pub TablesRight : Sections → Type 0
TablesRight s = TablesRightBy s (FieldRight s)

-- ---- 21: root, parents, tree, order of definitions and items

pub record ShapeRight (s : Sections) : Type 0 where
  pub root-parent : parent_of s 0 ≡ NONE
  pub root-place : place_of s 0 ≡ NONE
  pub root-container : tag_of s 0 ≡ container_tag
  pub parents : (i : ℕ) → i < node_count s → 0 < i → ParentRight s i
  pub child : (i : ℕ) → i < node_count s → (j : ℕ) → j < number_of_children s i → ChildRight s i j
  pub entry : (i : ℕ) → i < node_count s → (j : ℕ) → j < number_of_named s i → NamedRight s i j
  pub definitions-rise : (d : ℕ) → d < definition_count s → rising (definition_text s) d ≡ true
  pub items-rise : (d : ℕ) → d < definition_count s → (j : ℕ) → j < number_of_items s d → rising (item_text_of s d) j ≡ true

-- ---- 22: every container, the root excepted, has a name or a place, and no two have one path

pub record PathsRight (s : Sections) : Type 0 where
  pub placed : (i : ℕ) → i < node_count s → is_container s i ≡ true → i ≢ 0 → NameOrPlace s i
  pub differ : (i j : ℕ) → i < node_count s → j < i → is_container s j ≡ true → is_container s i ≡ true → canonical_path s j ≢ canonical_path s i

-- ---- 19 to 22

pub record DraftRight (s : Sections) : Type 0 where
  pub tables : TablesRight s
  -- 20: every node is reached by entries from the root
  pub reached : (i : ℕ) → i < node_count s → Reached s i
  pub shape : ShapeRight s
  pub paths : PathsRight s

-- ---- all of the writer's rules: the ink version (3), the draft, work words enough (7), room for an image whose length a word can say (23)

pub record EncodeRight (ink : ℕ) (s : Sections) (work room : ℕ) : Type 0 where
  pub ink_least : first_ink_version ≤ ink
  pub ink_most : ink ≤ last_ink_version
  pub draft : DraftRight s
  pub words : write_words s ≤ work
  pub room-enough : length (image_for ink s) ≤ room
  pub length-fits : length (image_for ink s) ≤ NONE

-- the first rule broken is none exactly if each is kept
abbrev pub EncodesExactly : Type 0
EncodesExactly = (ink : ℕ) (s : Sections) (work room : ℕ) → Iff (encode_rule ink s work room ≡ 0) (EncodeRight ink s work room)

-- the same of the rules 19 to 22 alone
abbrev pub DraftsExactly : Type 0
DraftsExactly =
    (s : Sections) → Iff ((tables_rule s ≡ 0) × (reach_rule s ≡ 0) × (shape_rule s ≡ 0) × (paths_rule s ≡ 0)) (DraftRight s)
