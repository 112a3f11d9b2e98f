-- What a reader of an accepted image can count on, by the answers of the queries.
use Rattle.std.specs.Prelude.{ℕ, zero, suc, ◌≤◌, ◌<◌, ◌≡◌, Bool, true, false, length, None, Option, Some}
use mathlib.Core.List.{List, [], ◌∷◌, ◌++◌, Memᴰ}
use Rattle.laws.specs.Lists.{Below}
use Rattle.words.specs.Words.{word_at}
use Rattle.image.specs.Sections.{Sections, good_bytes, node_count, definition_count, item_count, f, is_container}
use Rattle.image.specs.Entries.{node_in}
use Rattle.image.specs.declared.ImageView.{ImageView}
use Rattle.image.specs.Header.{sections_by}
use Rattle.image.specs.Refusals.{not_found}
use Rattle.load.specs.Load.{loaded_of}
use Rattle.views.specs.declared.Span.{Span}
use Rattle.views.specs.declared.ValueView.{ValueView}
use Rattle.views.specs.declared.ValueView.TheVariants as value
use Rattle.views.specs.declared.NodeKindView.{NodeKindView}
use Rattle.views.specs.declared.NodeKindView.TheVariants as kind
use Rattle.views.specs.declared.NodeView.{NodeView}
use Rattle.views.specs.declared.NamedChildView.{NamedChildView}
use Rattle.views.specs.declared.ListEntry.{ListEntry}
use Rattle.views.specs.declared.DefinitionView.{DefinitionView}
use Rattle.views.specs.declared.ItemView.{ItemView}
use Rattle.views.specs.View.{node_view}
use Rattle.views.specs.Children.{child_count_of, named_count_of, child_query, named_query, text_query, shown_text}
use Rattle.views.specs.Lists.{list_part, list_entry, list_origin, definition_query, item_entry, item_query}
use Rattle.walks.specs.Walk.{Component, resolve}
use Rattle.depth.specs.Depth.{depth_of}
use Rattle.pages.specs.Page.{node_slot, no_slot, slot_of, slot_view}
use Rattle.promises.specs.Promises.{ReachesRoot}
use Rattle.promises.specs.Answers.{given, refused, of_loaded, of_node, of_found, of_count, of_named, of_text, of_entry, of_definition, of_item}

-- ---- texts

-- a text is handed back whole: it is found, its part of the strings has its length, and its bytes are good
pub record Whole (s : Sections) (t : Span) : Type 0 where
  pub found : of_text (text_query s t) ≡ given t
  pub whole : length (shown_text s.strings t.offset t.len) ≡ t.len
  pub encoded : good_bytes (shown_text s.strings t.offset t.len) ≡ true

-- the text, where there is one
abbrev pub texts_in : Option Span → List Span
texts_in (Some t) = t ∷ []
texts_in None = []

abbrev pub value_texts : ValueView → List Span
value_texts (value.Bool b) = []
value_texts (value.Int n) = []
value_texts (value.Float b x) = []
value_texts (value.String t) = t ∷ []
value_texts (value.List p) = []
value_texts (value.DivertTarget t) = t ∷ []
value_texts (value.VariablePointer t n) = t ∷ []

-- the texts that a view holds
abbrev pub view_texts : NodeKindView → List Span
view_texts (kind.Container flags name) = texts_in name
view_texts (kind.ChoicePoint flags target) = []
view_texts (kind.ControlCommand c) = []
view_texts (kind.Divert path target variable arguments conditional external pushes pushed) = texts_in path ++ texts_in variable
view_texts kind.Glue = []
view_texts (kind.NativeFunction o) = []
view_texts (kind.Tag t) = t ∷ []
view_texts (kind.Value v) = value_texts v
view_texts (kind.VariableAssignment t global new) = t ∷ []
view_texts (kind.VariableReference t target) = t ∷ []
view_texts kind.Void = []

-- ---- list values

-- item j is found, and its texts are handed back whole
pub record ItemRead (s : Sections) (p : Span) (j : ℕ) : Type 0 where
  pub item : ListEntry
  pub found : of_entry (list_entry (list_part s p) s.strings j) ≡ given item
  pub name : Whole s item.name
  pub origin : (t : Span) → Memᴰ t (texts_in item.origin) → Whole s t

-- so is origin j
pub record OriginRead (s : Sections) (p : Span) (j : ℕ) : Type 0 where
  pub origin : Span
  pub found : of_text (list_origin (list_part s p) s.strings j) ≡ given origin
  pub whole : Whole s origin

pub record ListRead (s : Sections) (p : Span) : Type 0 where
  pub items : (j : ℕ) → j < word_at (list_part s p) 0 → ItemRead s p j
  pub origins : (j : ℕ) → j < word_at (list_part s p) 4 → OriginRead s p j

abbrev pub value_lists : ValueView → List Span
value_lists (value.Bool b) = []
value_lists (value.Int n) = []
value_lists (value.Float b x) = []
value_lists (value.String t) = []
value_lists (value.List p) = p ∷ []
value_lists (value.DivertTarget t) = []
value_lists (value.VariablePointer t n) = []

-- the list values of a view, one or none
abbrev pub view_lists : NodeKindView → List Span
view_lists (kind.Container flags name) = []
view_lists (kind.ChoicePoint flags target) = []
view_lists (kind.ControlCommand c) = []
view_lists (kind.Divert path target variable arguments conditional external pushes pushed) = []
view_lists kind.Glue = []
view_lists (kind.NativeFunction o) = []
view_lists (kind.Tag t) = []
view_lists (kind.Value v) = value_lists v
view_lists (kind.VariableAssignment t global new) = []
view_lists (kind.VariableReference t target) = []
view_lists kind.Void = []

-- ---- climbing by views

abbrev pub or_stay : ℕ → Option ℕ → ℕ
or_stay i (Some p) = p
or_stay i None = i

-- the node that the view names as parent; where there is none, the same node
abbrev pub step_up : ℕ → Option NodeView → ℕ
step_up i (Some v) = or_stay i v.parent
step_up i None = i

-- the node after k such steps
unfoldable pub ascend : Sections → ℕ → ℕ → ℕ
ascend s zero i = i
ascend s (suc k) i = ascend s k (step_up i (node_view s i))

-- ---- depth

-- the depth is found and is fewer than the nodes; so many steps by views lead to node 0 and no fewer do; they are those that `ReachesRoot`
-- promises
pub record DepthRead (s : Sections) (i : ℕ) : Type 0 where
  pub depth : ℕ
  pub found : of_count (depth_of s i) ≡ given depth
  pub few : depth < node_count s
  pub arrives : ascend s depth i ≡ 0
  pub before : (k : ℕ) → k < depth → ascend s k i ≡ 0 → ⊥
  pub promised : (r : ReachesRoot s i) → r.steps ≡ depth

-- ---- children

-- ordered child j is found, and its view names the node and the place
pub record ChildRead (s : Sections) (i j : ℕ) : Type 0 where
  pub child : ℕ
  pub found : of_found (child_query s i j) ≡ given child
  pub view : NodeView
  pub viewed : of_node (node_view s child) ≡ given view
  pub parent : view.parent ≡ Some i
  pub place : view.child_index ≡ Some j

-- named child j is found, its name is handed back whole, and its view names the node
pub record NamedRead (s : Sections) (i j : ℕ) : Type 0 where
  pub child : NamedChildView
  pub found : of_named (named_query s i j) ≡ given child
  pub name : Whole s child.name
  pub view : NodeView
  pub viewed : of_node (node_view s child.node) ≡ given view
  pub parent : view.parent ≡ Some i

-- ---- a reader at node i

pub record Reads (s : Sections) (i : ℕ) : Type 0 where
  pub view : NodeView
  pub viewed : of_node (node_view s i) ≡ given view
  pub texts : (t : Span) → Memᴰ t (view_texts view.kind) → Whole s t
  pub lists : (p : Span) → Memᴰ p (view_lists view.kind) → ListRead s p
  -- in a page its slot is its words as the image holds them and two zeros, and the view of the slot's words is the node's
  pub slot : slot_of s i ≡ node_slot (node_in s i)
  pub slot-viewed : of_node (slot_view s (slot_of s i)) ≡ given view
  -- fewer steps than nodes lead to node 0, which alone has no parent
  pub ascends : (k : ℕ) → node_count s ≤ suc k → ascend s k i ≡ 0
  pub parentless : view.parent ≡ None → i ≡ 0
  pub depth : DepthRead s i
  -- a container has both counts; below them no child is missing
  pub child-count : is_container s i ≡ true → of_count (child_count_of s i) ≡ given (f s i 4)
  pub named_count_lem : is_container s i ≡ true → of_count (named_count_of s i) ≡ given (f s i 6)
  pub child : (n : ℕ) → of_count (child_count_of s i) ≡ given n → (j : ℕ) → j < n → ChildRead s i j
  pub named : (n : ℕ) → of_count (named_count_of s i) ≡ given n → (j : ℕ) → j < n → NamedRead s i j

-- ---- definitions and items

-- item k of all is found, and its name is handed back whole
pub record NumberedItemRead (s : Sections) (k : ℕ) : Type 0 where
  pub item : ItemView
  pub found : of_item (item_entry s k) ≡ given item
  pub name : Whole s item.name

-- so is the j-th item of definition d
pub record DefinitionItemRead (s : Sections) (d j : ℕ) : Type 0 where
  pub item : ItemView
  pub found : of_item (item_query s d j) ≡ given item
  pub name : Whole s item.name

-- definition d is found, its name is handed back whole, and no item below its count is missing
pub record DefinitionRead (s : Sections) (d : ℕ) : Type 0 where
  pub definition : DefinitionView
  pub found : of_definition (definition_query s d) ≡ given definition
  pub name : Whole s definition.name
  pub items : (j : ℕ) → j < definition.items → DefinitionItemRead s d j

-- ---- walks

-- where a walk ends there is a node, and it has a view
pub record WalkRead (s : Sections) (n : ℕ) : Type 0 where
  pub inside : n < node_count s
  pub view : NodeView
  pub viewed : of_node (node_view s n) ≡ given view

-- ---- all of it

pub record ImageReads (s : Sections) : Type 0 where
  pub nodes : (i : ℕ) → i < node_count s → Reads s i
  -- of every walk that finds something, whatever the origin and the components
  pub walks : (relative : Bool) (origin : ℕ) (cs : List Component) (n : ℕ) → of_found (resolve s relative origin cs) ≡ given n → WalkRead s n
  -- an absolute walk needs no origin: it is the relative one from node 0; from past the last node a relative one finds nothing
  pub absolute-walk : (origin : ℕ) (cs : List Component) → of_found (resolve s false origin cs) ≡ of_found (resolve s true 0 cs)
  pub no_walk : (origin : ℕ) → node_count s ≤ origin → (cs : List Component) → of_found (resolve s true origin cs) ≡ refused not_found
  -- past the last node there is no depth, and a slot is 18 and eleven zeros
  pub no_depth : (i : ℕ) → node_count s ≤ i → of_count (depth_of s i) ≡ refused not_found
  pub no_slot_lem : (i : ℕ) → node_count s ≤ i → slot_of s i ≡ no_slot
  pub definitions : (d : ℕ) → d < definition_count s → DefinitionRead s d
  pub items : (k : ℕ) → k < item_count s → NumberedItemRead s k

-- of bytes that a load accepts, with the view that it answers
abbrev pub AcceptedReads : Type 0
AcceptedReads = (bs : List ℕ) (work : ℕ) (v : ImageView) → Below 256 bs → of_loaded (loaded_of bs work) ≡ given v → ImageReads (sections_by bs v)
