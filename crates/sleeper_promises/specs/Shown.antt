-- What the sleeper can count on in an image that the sleeper's load accepts, by the answers of the sleeper's reader.
use Rattle.std.specs.Prelude.{ℕ, zero, suc, ◌≤◌, ◌<◌, ◌≡◌, List, Bool, true, false, ℤ, None, Option, Some}
use Rattle.laws.specs.Lists.{Below}
use Rattle.image.specs.declared.ImageView.{ImageView}
use Rattle.image.specs.Sections.{Sections, good_bytes, node_count, definition_count, item_count, f, is_container}
use Rattle.image.specs.Header.{sections_by}
use Rattle.image.specs.Refusals.{not_found}
use Rattle.load.specs.Load.{loaded_of}
use Rattle.definitions.specs.Definitions.{first_item}
use Rattle.views.specs.declared.NodeView.{NodeView}
use Rattle.views.specs.View.{node_view}
use Rattle.views.specs.Children.{child_count_of, named_count_of, child_query}
use Rattle.walks.specs.Walk.{Component, resolve}
use Rattle.depth.specs.Depth.{depth_of}
use Rattle.promises.specs.Answers.{given, refused, of_loaded, of_node, of_found, of_count}
use Rattle.promises.specs.Promises.{Sound, OneSpelling}
use Rattle.promises.specs.Readers.{or_stay, ImageReads}
use Rattle.promises.specs.Lookups.{Lookups}
use Rattle.sleeper.specs.declared.Which.{Which}
use Rattle.sleeper.specs.declared.Which.TheVariants as which
use Rattle.sleeper.specs.declared.SleeperView.{SleeperView}
use Rattle.sleeper.specs.declared.SleeperValue.{SleeperValue}
use Rattle.sleeper.specs.declared.SleeperValue.TheVariants as value
use Rattle.sleeper.specs.declared.SleeperKind.{SleeperKind}
use Rattle.sleeper.specs.declared.SleeperKind.TheVariants as kind
use Rattle.sleeper.specs.declared.SleeperNode.{SleeperNode}
use Rattle.sleeper.specs.declared.SleeperEntry.{SleeperEntry}
use Rattle.sleeper.specs.Reader.{without_places, sleeper_sections, sleeper_loaded}
use Rattle.sleeper.specs.Seen.{sleeper_view, sleeper_named, sleeper_definition, sleeper_first_item, sleeper_item, sleeper_definition_item}
use Rattle.sleeper.specs.Texts.{sleeper_text}
use Rattle.sleeper.specs.Lists.{sleeper_list_items, sleeper_list_origins, sleeper_entry}
use Rattle.sleeper_promises.specs.Answers.{of_sleeper_loaded, of_sleeper, of_sleeper_entry, of_sleeper_item, of_bytes}

-- ---- texts

-- the text is given, and its bytes are good
pub record TextGiven (s : Sections) (w : Which) : Type 0 where
  pub bytes : List ℕ
  pub found : of_bytes (sleeper_text s w) ≡ given bytes
  pub encoded : good_bytes bytes ≡ true

-- given if the flag says so, else 18
abbrev pub TextIf : Bool → Sections → Which → Type 0
TextIf true s w = TextGiven s w
TextIf false s w = of_bytes (sleeper_text s w) ≡ refused not_found

-- every text that is given has good bytes
abbrev pub TextsGood : Sections → Type 0
TextsGood s = (w : Which) (t : List ℕ) → of_bytes (sleeper_text s w) ≡ given t → good_bytes t ≡ true

-- ---- which texts a view tells of

abbrev pub value_has_text : SleeperValue → Bool
value_has_text (value.Bool b) = false
value_has_text (value.Int n) = false
value_has_text (value.Float bits x) = false
value_has_text value.String = true
value_has_text value.List = false
value_has_text value.DivertTarget = true
value_has_text (value.VariablePointer context) = true

abbrev pub has_text : SleeperKind → Bool
has_text (kind.Container flags name) = name
has_text (kind.ChoicePoint flags target) = false
has_text (kind.ControlCommand c) = false
has_text (kind.Divert path target variable arguments conditional external pushes pushed) = path
has_text kind.Glue = false
has_text (kind.NativeFunction o) = false
has_text kind.Tag = true
has_text (kind.Value v) = value_has_text v
has_text (kind.VariableAssignment global new) = true
has_text (kind.VariableReference target) = true
has_text kind.Void = false

abbrev pub has_variable : SleeperKind → Bool
has_variable (kind.Container flags name) = false
has_variable (kind.ChoicePoint flags target) = false
has_variable (kind.ControlCommand c) = false
has_variable (kind.Divert path target variable arguments conditional external pushes pushed) = variable
has_variable kind.Glue = false
has_variable (kind.NativeFunction o) = false
has_variable kind.Tag = false
has_variable (kind.Value v) = false
has_variable (kind.VariableAssignment global new) = false
has_variable (kind.VariableReference target) = false
has_variable kind.Void = false

-- ---- climbing by views

-- the node that the view names as parent; where there is none, the same node
abbrev pub step_seen : ℕ → Option SleeperNode → ℕ
step_seen i (Some v) = or_stay i v.parent
step_seen i None = i

-- the node after k such steps
unfoldable pub ascend_seen : Sections → ℕ → ℕ → ℕ
ascend_seen s zero i = i
ascend_seen s (suc k) i = ascend_seen s k (step_seen i (sleeper_view s i))

-- ---- list values, of node i

-- item j is found, its name is given, and its origin if it names one
pub record EntryShown (s : Sections) (i j : ℕ) : Type 0 where
  pub entry : SleeperEntry
  pub found : of_sleeper_entry (sleeper_entry s i j) ≡ given entry
  pub name : TextGiven s (which.EntryName i j)
  pub origin : TextIf entry.origin s (which.EntryOrigin i j)

-- both counts are found; below them nothing is missing
pub record ListShown (s : Sections) (i : ℕ) : Type 0 where
  pub items : ℕ
  pub item_count_lem : of_count (sleeper_list_items s i) ≡ given items
  pub item : (j : ℕ) → j < items → EntryShown s i j
  pub origins : ℕ
  pub origin-count : of_count (sleeper_list_origins s i) ≡ given origins
  pub origin : (j : ℕ) → j < origins → TextGiven s (which.Origin i j)

-- ---- depth

-- found and fewer than the nodes; so many steps by views lead to node 0, and no fewer do
pub record DepthShown (s : Sections) (i : ℕ) : Type 0 where
  pub depth : ℕ
  pub found : of_count (depth_of s i) ≡ given depth
  pub few : depth < node_count s
  pub arrives : ascend_seen s depth i ≡ 0
  pub before : (k : ℕ) → k < depth → ascend_seen s k i ≡ 0 → ⊥

-- ---- children

-- ordered child j is found, and its view names the node and the place
pub record ChildShown (s : Sections) (i j : ℕ) : Type 0 where
  pub child : ℕ
  pub found : of_found (child_query s i j) ≡ given child
  pub view : SleeperNode
  pub viewed : of_sleeper (sleeper_view s child) ≡ given view
  pub parent : view.parent ≡ Some i
  pub place : view.child_index ≡ Some j

-- named child j is found, its name is given, and its view names the node
pub record NamedShown (s : Sections) (i j : ℕ) : Type 0 where
  pub child : ℕ
  pub found : of_found (sleeper_named s i j) ≡ given child
  pub name : TextGiven s (which.NamedChild i j)
  pub view : SleeperNode
  pub viewed : of_sleeper (sleeper_view s child) ≡ given view
  pub parent : view.parent ≡ Some i

-- ---- the sleeper at node i

pub record NodeShown (s : Sections) (i : ℕ) : Type 0 where
  -- there is a view, with the parent and the place that the technician's reader tells
  pub view : SleeperNode
  pub viewed : of_sleeper (sleeper_view s i) ≡ given view
  pub technician : NodeView
  pub technician-viewed : of_node (node_view s i) ≡ given technician
  pub parent : view.parent ≡ technician.parent
  pub place : view.child_index ≡ technician.child_index
  -- a text is given if the view tells of one, else 18
  pub text : TextIf (has_text view.kind) s (which.Node i)
  pub variable : TextIf (has_variable view.kind) s (which.Variable i)
  pub list : view.kind ≡ kind.Value value.List → ListShown s i
  -- fewer steps than nodes lead to node 0, which alone has no parent
  pub ascends : (k : ℕ) → node_count s ≤ suc k → ascend_seen s k i ≡ 0
  pub parentless : view.parent ≡ None → i ≡ 0
  pub depth : DepthShown s i
  -- a container has both counts; below them no child is missing
  pub child-count : is_container s i ≡ true → of_count (child_count_of s i) ≡ given (f s i 4)
  pub named_count_lem : is_container s i ≡ true → of_count (named_count_of s i) ≡ given (f s i 6)
  pub child : (n : ℕ) → of_count (child_count_of s i) ≡ given n → (j : ℕ) → j < n → ChildShown s i j
  pub named : (n : ℕ) → of_count (named_count_of s i) ≡ given n → (j : ℕ) → j < n → NamedShown s i j

-- ---- definitions and items

-- item k of all is found, and its name is given
pub record ItemShown (s : Sections) (k : ℕ) : Type 0 where
  pub value : ℤ
  pub found : of_sleeper_item (sleeper_item s k) ≡ given value
  pub name : TextGiven s (which.Item k)

-- so is the j-th item of definition d
pub record DefinitionItemShown (s : Sections) (d j : ℕ) : Type 0 where
  pub value : ℤ
  pub found : of_sleeper_item (sleeper_definition_item s d j) ≡ given value
  pub name : TextGiven s (which.DefinitionItem d j)

-- definition d is found by its number of items and by its first item, its name is given, and no item below its count is missing
pub record DefinitionShown (s : Sections) (d : ℕ) : Type 0 where
  pub items : ℕ
  pub found : of_count (sleeper_definition s d) ≡ given items
  pub first : of_count (sleeper_first_item s d) ≡ given (first_item s d)
  pub name : TextGiven s (which.Definition d)
  pub item : (j : ℕ) → j < items → DefinitionItemShown s d j

-- ---- walks

-- where a walk ends there is a node, and it has a view
pub record WalkShown (s : Sections) (n : ℕ) : Type 0 where
  pub inside : n < node_count s
  pub view : SleeperNode
  pub viewed : of_sleeper (sleeper_view s n) ≡ given view

-- ---- all of it

pub record SectionsShown (s : Sections) : Type 0 where
  pub nodes : (i : ℕ) → i < node_count s → NodeShown s i
  -- of every walk that finds something, whatever the origin and the components
  pub walks : (relative : Bool) (origin : ℕ) (cs : List Component) (n : ℕ) → of_found (resolve s relative origin cs) ≡ given n → WalkShown s n
  pub definitions : (d : ℕ) → d < definition_count s → DefinitionShown s d
  pub items : (k : ℕ) → k < item_count s → ItemShown s k
  pub texts : TextsGood s

-- what readers are promised of the sections of an accepted image, whoever reads them
pub record SectionsPromised (s : Sections) : Type 0 where
  pub reads : ImageReads s
  pub lookups : Lookups s
  pub sound : Sound s
  pub spelling : OneSpelling s

pub record ImageShown (bs : List ℕ) (work : ℕ) (v : SleeperView) : Type 0 where
  -- the technician's load answers a view too, of which this is what the sleeper's keeps, and both readers see the same sections
  pub technician : ImageView
  pub loaded : of_loaded (loaded_of bs work) ≡ given technician
  pub kept : without_places technician ≡ v
  pub sections : sleeper_sections bs v ≡ sections_by bs technician
  -- so all that is promised of these holds
  pub promised : SectionsPromised (sleeper_sections bs v)
  -- and this by the sleeper's own answers
  pub shown : SectionsShown (sleeper_sections bs v)

-- of bytes that the sleeper's load accepts, with the view that it answers
abbrev pub AcceptedShown : Type 0
AcceptedShown = (bs : List ℕ) (work : ℕ) (v : SleeperView) → Below 256 bs → of_sleeper_loaded (sleeper_loaded bs work) ≡ given v → ImageShown bs work v
