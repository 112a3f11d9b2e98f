-- What is asked of a draft whose targets are to be found from paths, and of the list of paths beside it, rule by rule in plain words. What is
-- taken is exactly this (proofs/ResolverRules), and which node decides 25 and 26.
use Rattle.std.specs.Prelude.{ℕ, ◌+◌, ◌-◌, ◌*◌, ◌%◌, ◌≤◌, ◌<◌, ◌≡◌, ◌≢◌, ◌⊎◌, false, length, get_or, None, Some}
use Rattle.words.specs.Words.{NONE}
use Rattle.image.specs.Entries.{node_in}
use Rattle.image.specs.Header.{first_ink_version, last_ink_version}
use Rattle.image.specs.Refusals.{no_target, no_container}
use Rattle.image.specs.Sections.{Sections, node_count, tag_of, f}
use Rattle.image.specs.Tags.{container_tag, choice_tag, divert_tag, target_tag, reference_tag}
use Rattle.records.specs.Fields.{Field, target_before, no_place}
use Rattle.records.specs.Flags.{external}
use Rattle.tree.specs.Reach.{Reached}
use Rattle.draft.specs.Draft.{write_words}
use Rattle.draft.specs.PathList.{path_entry_words, path_count, path_word, path_origin}
use Rattle.walks.specs.Walk.{component_words, index_kind}
use Rattle.promises.specs.Rules.{NodeRight, FieldRight, Iff}
use Rattle.written.specs.DraftRules.{TablesRightBy, ShapeRight}
use Rattle.target_finding.specs.Targets.{PathList, path_end, resolve_rule}

-- ---- 19: the list of paths

-- entry k names a node of the draft that no other entry names, says 0 or 1, and has its components among those that are lent
pub record PathRight (s : Sections) (p : PathList) (k : ℕ) : Type 0 where
  pub node : NodeRight s (path_origin p.entries k)
  pub once : (j : ℕ) → j < path_count p.entries → j ≢ k → path_origin p.entries j ≢ path_origin p.entries k
  pub relative : path_word p.entries k 1 ≤ 1
  pub components : component_words * (path_word p.entries k 2 + path_word p.entries k 3) ≤ length p.components

pub record ListRight (s : Sections) (p : PathList) : Type 0 where
  pub whole : length p.entries % path_entry_words ≡ 0
  pub entry : (k : ℕ) → k < path_count p.entries → PathRight s p k

-- ---- who follows a path

-- a divert that is neither external nor by variable
pub record PlainDivert (s : Sections) (i : ℕ) : Type 0 where
  pub divert : tag_of s i ≡ divert_tag
  pub not-external : external (node_in s i) ≡ false
  pub no_variable : (f s i 3 ≡ NONE) × (f s i 4 ≡ NONE)

-- a choice, such a divert, a divert-target value, a reference: any other node is passed over
abbrev pub MayFollow : Sections → ℕ → Type 0
MayFollow s i = (tag_of s i ≡ choice_tag) ⊎ PlainDivert s i ⊎ (tag_of s i ≡ target_tag) ⊎ (tag_of s i ≡ reference_tag)

-- node i follows the path of entry k
pub record Follows (s : Sections) (p : PathList) (i k : ℕ) : Type 0 where
  pub listed : k < path_count p.entries
  pub origin : path_origin p.entries k ≡ i
  pub may : MayFollow s i

-- ---- 19: the tables, as the writer asks, but for the targets of nodes that follow a path

-- the field names another node, and its node follows a path
pub record FoundLater (s : Sections) (p : PathList) (i : ℕ) (x : Field) : Type 0 where
  pub target : target_before x no_place ≢ no_place
  pub entry : ℕ
  pub follows : Follows s p i entry

abbrev pub PathTablesRight : Sections → PathList → Type 0
PathTablesRight s p = TablesRightBy s (λ i x. FieldRight s i x ⊎ FoundLater s p i x)

-- ---- all tests up to 21

pub record TestsRight (ink : ℕ) (s : Sections) (p : PathList) (work : ℕ) : Type 0 where
  pub ink_least : first_ink_version ≤ ink
  pub ink_most : ink ≤ last_ink_version
  pub list : ListRight s p
  pub tables : PathTablesRight s p
  pub words : write_words s ≤ work
  -- 20: every node is reached by entries from the root
  pub reached : (i : ℕ) → i < node_count s → Reached s i
  pub shape : ShapeRight s

-- ---- 25, 26: where paths lead

-- the path of entry k has components, and the last is an index
pub record EndsInIndex (p : PathList) (k : ℕ) : Type 0 where
  pub some : 0 < path_word p.entries k 3
  pub last : get_or p.components (component_words * (path_word p.entries k 2 + path_word p.entries k 3 - 1)) 0 ≡ index_kind

-- a choice and a read count need a container, a divert unless the last component of its path is an index
abbrev pub ContainerDue : Sections → PathList → ℕ → ℕ → Type 0
ContainerDue s p i k = (tag_of s i ≡ choice_tag) ⊎ (tag_of s i ≡ reference_tag) ⊎ ((tag_of s i ≡ divert_tag) × (EndsInIndex p k → ⊥))

-- a node is at the end of the path, a container where one is due
pub record TargetThere (s : Sections) (p : PathList) (i k : ℕ) : Type 0 where
  pub node : ℕ
  pub end : path_end s p i k ≡ Some node
  pub container : ContainerDue s p i k → tag_of s node ≡ container_tag

pub record ResolveRight (ink : ℕ) (s : Sections) (p : PathList) (work : ℕ) : Type 0 where
  pub tests : TestsRight ink s p work
  pub targets : (i k : ℕ) → Follows s p i k → TargetThere s p i k

-- the first rule broken is none exactly if each is kept
abbrev pub ResolveExactly : Type 0
ResolveExactly = (ink : ℕ) (s : Sections) (p : PathList) (work : ℕ) → Iff (resolve_rule ink s p work ≡ 0) (ResolveRight ink s p work)

-- ---- which node decides

-- node i follows a path, and no node is at its end
pub record NoNodeThere (s : Sections) (p : PathList) (i : ℕ) : Type 0 where
  pub entry : ℕ
  pub follows : Follows s p i entry
  pub end : path_end s p i entry ≡ None

-- node i follows a path that has to lead to a container, and the node at its end is none
pub record NoContainerThere (s : Sections) (p : PathList) (i : ℕ) : Type 0 where
  pub entry : ℕ
  pub follows : Follows s p i entry
  pub due : ContainerDue s p i entry
  pub node : ℕ
  pub end : path_end s p i entry ≡ Some node
  pub other : tag_of s node ≢ container_tag

-- all tests up to 21 pass, a node fails so, and every node before it finds its target
pub record Decides (ink : ℕ) (s : Sections) (p : PathList) (work : ℕ) (Fails : ℕ → Type 0) : Type 0 where
  pub tests : TestsRight ink s p work
  pub node : ℕ
  pub below : node < node_count s
  pub fails : Fails node
  pub before : (i k : ℕ) → i < node → Follows s p i k → TargetThere s p i k

pub record Deciding (ink : ℕ) (s : Sections) (p : PathList) (work : ℕ) : Type 0 where
  pub no_target_lem : Iff (resolve_rule ink s p work ≡ no_target) (Decides ink s p work (NoNodeThere s p))
  pub no_container_lem : Iff (resolve_rule ink s p work ≡ no_container) (Decides ink s p work (NoContainerThere s p))

-- 25 and 26 come from the first node that fails, and say what fails
abbrev pub DecidingNode : Type 0
DecidingNode = (ink : ℕ) (s : Sections) (p : PathList) (work : ℕ) → Deciding ink s p work

-- 26 is never given of a divert
abbrev pub NeverOfDivert : Type 0
NeverOfDivert = (ink : ℕ) (s : Sections) (p : PathList) (work : ℕ) (d : Decides ink s p work (NoContainerThere s p)) → tag_of s d.node ≢ divert_tag
