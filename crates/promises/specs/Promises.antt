-- Demand 3, 'nothing sticks', as types: what is claimed of every accepted image, at every node.
use Rattle.std.specs.Prelude.{ℕ, suc, ◌+◌, ◌≤◌, ◌<◌, ◌≡◌, ◌≢◌, true, length}
use mathlib.Core.List.{List, Memᴰ}
use Rattle.laws.specs.Lists.{Below}
use Rattle.words.specs.Words.{NONE}
use Rattle.image.specs.Sections.{Sections, node_count, named_count, definition_count, item_count, index_count, parent_of, place_of, tag_of, f, named_word, definition_word, item_word, index_word, is_container}
use Rattle.image.specs.Header.{sections_of}
use Rattle.records.specs.Fields.{kind_of, Field, text, optional, command, operator, node, optionalNode, container, optionalContainer, plain, at_most, children, named, payload, wrong}
use Rattle.records.specs.Records.{target_of, fields_at, list_items, list_origins, list_item_word, list_origin_word}
use Rattle.tree.specs.Tree.{child_at, named_at}
use Rattle.tree.specs.Reach.{climb}
use Rattle.index.specs.Paths.{canonical_path}
use Rattle.index.specs.Index.{index_text}
use Rattle.load.specs.Load.{load_rule}
use Rattle.views.specs.View.{node_view}
use Rattle.promises.specs.Answers.{of_node}
use Rattle.promises.specs.Rules.{NameOrPlace}

-- ---- parent steps

-- a parent step goes to the node in the parent word
pub record ReachesRoot (s : Sections) (i : ℕ) : Type 0 where
  pub steps : ℕ
  -- fewer steps than nodes
  pub few : steps < node_count s
  pub arrives : climb s steps i ≡ 0
  -- every node that a step arrives at, node 0 too, is inside and a container
  pub inside : (k : ℕ) → k < steps → climb s (suc k) i < node_count s
  pub containers : (k : ℕ) → k < steps → is_container s (climb s (suc k) i) ≡ true

-- ---- targets and texts

-- present if not NONE, inside if below the node count
abbrev pub TargetInside : Sections → ℕ → Type 0
TargetInside s n = n ≢ NONE → n < node_count s

-- a text by its two words: present if neither is NONE, inside if offset plus length is at most the strings count
abbrev pub TextInside : Sections → ℕ → ℕ → Type 0
TextInside s at len = at ≢ NONE → len ≢ NONE → at + len ≤ length s.strings

-- item j, origin j of the list value whose payload starts at `at`
pub record ListTexts (s : Sections) (at : ℕ) : Type 0 where
  pub item-origin : (j : ℕ) → j < list_items s at → TextInside s (list_item_word s at j 0) (list_item_word s at j 1)
  pub item-name : (j : ℕ) → j < list_items s at → TextInside s (list_item_word s at j 2) (list_item_word s at j 3)
  pub origin : (j : ℕ) → j < list_origins s at → TextInside s (list_origin_word s at j 0) (list_origin_word s at j 1)

-- the texts of a field of node i
abbrev pub FieldTexts : Sections → ℕ → Field → Type 0
FieldTexts s i (text k) = TextInside s (f s i k) (f s i (k + 1))
FieldTexts s i (optional k) = TextInside s (f s i k) (f s i (k + 1))
FieldTexts s i (command k) = TextInside s (f s i k) (f s i (k + 1))
FieldTexts s i (operator k) = TextInside s (f s i k) (f s i (k + 1))
FieldTexts s i payload = ListTexts s (f s i 0)
FieldTexts s i (node k) = Unit {0}
FieldTexts s i (optionalNode k) = Unit {0}
FieldTexts s i (container k) = Unit {0}
FieldTexts s i (optionalContainer k) = Unit {0}
FieldTexts s i (plain k) = Unit {0}
FieldTexts s i (at_most k n) = Unit {0}
FieldTexts s i children = Unit {0}
FieldTexts s i named = Unit {0}
FieldTexts s i wrong = Unit {0}

-- ---- children of a container

-- inside, names i as parent and j as its place
pub record OrderedChild (s : Sections) (i j : ℕ) : Type 0 where
  pub inside : child_at s i j < node_count s
  pub parent : parent_of s (child_at s i j) ≡ i
  pub place : place_of s (child_at s i j) ≡ j

-- inside and names i as parent
pub record NamedChild (s : Sections) (i j : ℕ) : Type 0 where
  pub inside : named_at s i j 2 < node_count s
  pub parent : parent_of s (named_at s i j 2) ≡ i

-- ---- a reader at node i

pub record NodeSound (s : Sections) (i : ℕ) : Type 0 where
  -- the query gives a view and not 18
  pub viewed : (of_node (node_view s i)).number ≡ 0
  pub root : ReachesRoot s i
  pub ordered : is_container s i ≡ true → (j : ℕ) → j < f s i 4 → OrderedChild s i j
  pub named : is_container s i ≡ true → (j : ℕ) → j < f s i 6 → NamedChild s i j
  pub target : TargetInside s (target_of s i (kind_of (tag_of s i)))
  pub texts : (x : Field) → Memᴰ x (fields_at s i) → FieldTexts s i x

-- ---- the entries of the other sections

pub record EntriesInside (s : Sections) : Type 0 where
  pub named-node : (j : ℕ) → j < named_count s → TargetInside s (named_word s j 2)
  pub named-text : (j : ℕ) → j < named_count s → TextInside s (named_word s j 0) (named_word s j 1)
  pub index-node : (j : ℕ) → j < index_count s → TargetInside s (index_word s j 2)
  pub index-text : (j : ℕ) → j < index_count s → TextInside s (index_word s j 0) (index_word s j 1)
  pub definition-text : (d : ℕ) → d < definition_count s → TextInside s (definition_word s d 0) (definition_word s d 1)
  pub item-text : (j : ℕ) → j < item_count s → TextInside s (item_word s j 0) (item_word s j 1)

-- ---- the index

-- the index names container i exactly once: one entry holds its number and no other does
pub record NamedOnce (s : Sections) (i : ℕ) : Type 0 where
  pub entry : ℕ
  pub entry-inside : entry < index_count s
  pub holds : index_word s entry 2 ≡ i
  pub no_other : (j : ℕ) → j < index_count s → index_word s j 2 ≡ i → j ≡ entry

-- ---- all of it

pub record Sound (s : Sections) : Type 0 where
  pub nodes : (i : ℕ) → i < node_count s → NodeSound s i
  pub entries : EntriesInside s
  pub index : (i : ℕ) → i < node_count s → is_container s i ≡ true → NamedOnce s i

-- of whatever bytes a load accepts
abbrev pub AcceptedSound : Type 0
AcceptedSound = (bs : List ℕ) (work : ℕ) → Below 256 bs → load_rule bs work ≡ 0 → Sound (sections_of bs)

-- ---- one spelling in the index

pub record OneSpelling (s : Sections) : Type 0 where
  -- each index text is its target's canonical path
  pub texts : (j : ℕ) → j < index_count s → index_text s j ≡ canonical_path s (index_word s j 2)
  -- no two containers have one canonical path
  pub apart : (i k : ℕ) → i < node_count s → k < node_count s → is_container s i ≡ true → is_container s k ≡ true → canonical_path s i ≡ canonical_path s k → i ≡ k
  -- each container, the root excepted, has a name or a place
  pub name_or_place_lem : (i : ℕ) → i < node_count s → is_container s i ≡ true → i ≢ 0 → NameOrPlace s i

-- of whatever a load accepts
abbrev pub AcceptedOneSpelling : Type 0
AcceptedOneSpelling = (bs : List ℕ) (work : ℕ) → load_rule bs work ≡ 0 → OneSpelling (sections_of bs)
