-- What a load asks of its bytes, rule by rule in plain words. Acceptance is exactly this (proofs/Acceptance).
use Rattle.std.specs.Prelude.{ℕ, suc, ◌+◌, ◌*◌, ◌/◌, ◌≤◌, ◌<◌, ◌≡◌, ◌≢◌, ◌⊎◌, true, length, take}
use mathlib.Core.List.{List, Memᴰ}
use Rattle.words.specs.Words.{NONE, word_at}
use Rattle.texts.specs.Text.{holds, rising}
use Rattle.names.specs.Names.{commands, operators}
use Rattle.checksum.specs.Crc.{checksum_of}
use Rattle.image.specs.Sections.{Sections, list_head_size, list_item_size, list_origin_size, good_bytes, node_count, child_count, named_count, definition_count, item_count, index_count, parent_of, place_of, tag_of, f, definition_word, item_word, index_word, text_at}
use Rattle.image.specs.Header.{magic, header_length, version_at, ink_version_at, length_at, checksum_at, first_ink_version, last_ink_version, version, section_at, start_by, sections_of}
use Rattle.image.specs.Tags.{container_tag}
use Rattle.records.specs.Fields.{Field, text, optional, command, operator, node, optionalNode, container, optionalContainer, plain, at_most, children, named, payload, wrong}
use Rattle.records.specs.Records.{fields_at, number_of_children, number_of_named, children_before, named_before, payload_before, containers_before, list_items, list_origins, list_item_word, list_origin_word}
use Rattle.tree.specs.Tree.{child_at, named_at, named_text}
use Rattle.tree.specs.Reach.{Reached, climb}
use Rattle.index.specs.Paths.{nameless, canonical_path}
use Rattle.index.specs.Index.{index_text}
use Rattle.definitions.specs.Definitions.{definition_text, first_item, number_of_items, item_text_of, items_before}
use Rattle.load.specs.Load.{load_words, load_rule, Accepted}

-- ---- texts and nodes

-- present, inside and of good bytes
pub record TextRight (s : Sections) (at len : ℕ) : Type 0 where
  pub offset_given : at ≢ NONE
  pub length-given : len ≢ NONE
  pub inside : at + len ≤ length s.strings
  pub encoded : good_bytes (text_at s at len) ≡ true

-- absent only if both words are NONE
abbrev pub OptionalRight : Sections → ℕ → ℕ → Type 0
OptionalRight s at len = ((at ≡ NONE) × (len ≡ NONE)) ⊎ TextRight s at len

pub record NodeRight (s : Sections) (n : ℕ) : Type 0 where
  pub below : n < node_count s
  pub given : n ≢ NONE

pub record ContainerRight (s : Sections) (n : ℕ) : Type 0 where
  pub node : NodeRight s n
  pub container : tag_of s n ≡ container_tag

-- ---- the fields of a node

-- a list value whose payload starts at `at`
pub record PayloadRight (s : Sections) (at len : ℕ) : Type 0 where
  pub inside : at + len ≤ length s.payload
  pub long : list_head_size ≤ len
  pub exact : len ≡ list_head_size + list_items s at * list_item_size + list_origins s at * list_origin_size
  pub item-origin : (j : ℕ) → j < list_items s at → OptionalRight s (list_item_word s at j 0) (list_item_word s at j 1)
  pub item-name : (j : ℕ) → j < list_items s at → TextRight s (list_item_word s at j 2) (list_item_word s at j 3)
  pub origin : (j : ℕ) → j < list_origins s at → TextRight s (list_origin_word s at j 0) (list_origin_word s at j 1)

abbrev pub FieldRight : Sections → ℕ → Field → Type 0
FieldRight s i (text k) = TextRight s (f s i k) (f s i (k + 1))
FieldRight s i (optional k) = OptionalRight s (f s i k) (f s i (k + 1))
FieldRight s i (command k) = TextRight s (f s i k) (f s i (k + 1)) × (holds commands (text_at s (f s i k) (f s i (k + 1))) ≡ true)
FieldRight s i (operator k) = TextRight s (f s i k) (f s i (k + 1)) × (holds operators (text_at s (f s i k) (f s i (k + 1))) ≡ true)
FieldRight s i (node k) = NodeRight s (f s i k)
FieldRight s i (optionalNode k) = (f s i k ≡ NONE) ⊎ NodeRight s (f s i k)
FieldRight s i (container k) = ContainerRight s (f s i k)
FieldRight s i (optionalContainer k) = (f s i k ≡ NONE) ⊎ ContainerRight s (f s i k)
FieldRight s i (plain k) = Unit {0}
FieldRight s i (at_most k n) = f s i k ≤ n
FieldRight s i children = (f s i 3 + f s i 4 ≤ child_count s) × (f s i 3 ≡ children_before s i)
FieldRight s i named = (f s i 5 + f s i 6 ≤ named_count s) × (f s i 5 ≡ named_before s i)
FieldRight s i payload = (f s i 0 ≡ payload_before s i) × PayloadRight s (f s i 0) (f s i 1)
FieldRight s i wrong = ⊥

pub record ParentRight (s : Sections) (i : ℕ) : Type 0 where
  pub container : ContainerRight s (parent_of s i)
  pub other : parent_of s i ≢ i

-- ---- a container's entries

pub record ChildRight (s : Sections) (i j : ℕ) : Type 0 where
  pub node : NodeRight s (child_at s i j)
  pub parent : parent_of s (child_at s i j) ≡ i
  pub place : place_of s (child_at s i j) ≡ j

pub record NamedRight (s : Sections) (i j : ℕ) : Type 0 where
  pub text : TextRight s (named_at s i j 0) (named_at s i j 1)
  pub order : rising (named_text s i) j ≡ true
  pub container : ContainerRight s (named_at s i j 2)
  pub parent : parent_of s (named_at s i j 2) ≡ i

-- ---- the index and the definitions

-- node x is node i or on the way from it up to the root, the root excepted
pub record OnWay (s : Sections) (i x : ℕ) : Type 0 where
  pub steps : ℕ
  pub arrives : climb s steps i ≡ x
  pub below_root : (m : ℕ) → m ≤ steps → climb s m i ≢ 0

-- not a nameless node of place NONE
abbrev pub NameOrPlace : Sections → ℕ → Type 0
NameOrPlace s i = nameless s i ≡ true → place_of s i ≢ NONE

pub record IndexRight (s : Sections) (j : ℕ) : Type 0 where
  pub text : TextRight s (index_word s j 0) (index_word s j 1)
  pub container : ContainerRight s (index_word s j 2)
  pub order : rising (index_text s) j ≡ true
  -- only the canonical path fits
  pub path : index_text s j ≡ canonical_path s (index_word s j 2)
  -- and nothing where a nameless container of place NONE is the target or on the way
  pub way : (x : ℕ) → OnWay s (index_word s j 2) x → NameOrPlace s x

pub record ItemRight (s : Sections) (d j : ℕ) : Type 0 where
  pub text : TextRight s (item_word s (first_item s d + j) 0) (item_word s (first_item s d + j) 1)
  pub order : rising (item_text_of s d) j ≡ true

pub record DefinitionRight (s : Sections) (d : ℕ) : Type 0 where
  pub text : TextRight s (definition_word s d 0) (definition_word s d 1)
  pub order : rising (definition_text s) d ≡ true
  pub inside : first_item s d + number_of_items s d ≤ item_count s
  pub start : first_item s d ≡ items_before s d
  pub items : (j : ℕ) → j < number_of_items s d → ItemRight s d j

-- ---- all rules

-- rows 8 to 17
pub record SectionsRight (s : Sections) : Type 0 where
  pub root-parent : parent_of s 0 ≡ NONE
  pub root-place : place_of s 0 ≡ NONE
  pub root-container : tag_of s 0 ≡ container_tag
  pub parents : (i : ℕ) → i < node_count s → 0 < i → ParentRight s i
  pub fields : (i : ℕ) → i < node_count s → (x : Field) → Memᴰ x (fields_at s i) → FieldRight s i x
  -- nothing is left over
  pub children-used : children_before s (node_count s) ≡ child_count s
  pub named-used : named_before s (node_count s) ≡ named_count s
  pub payload-used : payload_before s (node_count s) ≡ length s.payload
  pub index-used : containers_before s (node_count s) ≡ index_count s
  -- the tree
  pub reached : (i : ℕ) → i < node_count s → Reached s i
  pub child : (i : ℕ) → i < node_count s → (j : ℕ) → j < number_of_children s i → ChildRight s i j
  pub entry : (i : ℕ) → i < node_count s → (j : ℕ) → j < number_of_named s i → NamedRight s i j
  pub index : (j : ℕ) → j < index_count s → IndexRight s j
  pub definitions : (d : ℕ) → d < definition_count s → DefinitionRight s d
  pub items-used : items_before s (definition_count s) ≡ item_count s

-- rows 1 to 5
pub record HeaderRight (bs : List ℕ) : Type 0 where
  pub long : header_length ≤ length bs
  pub magic-first : take 8 bs ≡ magic
  pub versioned : word_at bs version_at ≡ version
  pub ink_least : first_ink_version ≤ word_at bs ink_version_at
  pub ink_most : word_at bs ink_version_at ≤ last_ink_version
  pub total : word_at bs length_at ≡ length bs
  -- each section begins where the one before it ends, and ends in the bytes; the last ends with them
  pub begins : (k : ℕ) → k < 8 → (section_at bs k).offset ≡ start_by bs k
  pub ends : (k : ℕ) → k < 8 → start_by bs (suc k) ≤ length bs
  pub whole : start_by bs 8 ≡ length bs
  pub node : 0 < (section_at bs 0).count

-- rows 1 to 6, and the rest
pub record BreaksNone (bs : List ℕ) : Type 0 where
  pub header : HeaderRight bs
  pub checksum : word_at bs checksum_at ≡ checksum_of bs
  pub sections : SectionsRight (sections_of bs)

-- ---- acceptance

abbrev pub Iff : Type 0 → Type 0 → Type 0
Iff A B = (A → B) × (B → A)

-- divert flags at most 23 are those below 32 of which an eighth is at most 2
abbrev pub DivertFlags : Type 0
DivertFlags = (flags : ℕ) → Iff (flags ≤ 23) ((flags < 32) × (flags / 8 ≤ 2))

-- the first rule broken is none exactly if each rule is kept
abbrev pub AcceptedExactly : Type 0
AcceptedExactly = (bs : List ℕ) → Iff (Accepted bs) (BreaksNone bs)

-- a load with enough work words accepts exactly the bytes that break none of its rules
abbrev pub LoadsExactly : Type 0
LoadsExactly = (bs : List ℕ) (work : ℕ) → load_words (sections_of bs) ≤ work → Iff (load_rule bs work ≡ 0) (BreaksNone bs)

-- and with fewer it accepts none
abbrev pub LoadsEnough : Type 0
LoadsEnough = (bs : List ℕ) (work : ℕ) → load_rule bs work ≡ 0 → load_words (sections_of bs) ≤ work
