-- Targets found from paths: where the path of each node leads, what is refused, and the resolved draft.
use Rattle.std.specs.Prelude.{ℕ, ◌+◌, ◌-◌, ◌*◌, ◌/◌, List, [], ◌∷◌, Bool, cond, ◌&&◌, ◌||◌, not, length, get_or, leb, ltb, eqb, None, Option, Some}
use Rattle.laws.specs.Refusal.{unless, ◌▸◌, first_of}
use Rattle.laws.specs.Counted.{join_of}
use Rattle.words.specs.Words.{NONE}
use Rattle.image.specs.Header.{ink_right}
use Rattle.image.specs.Refusals.{bad_ink_version, too_few_words, bad_draft, no_target, no_container}
use Rattle.image.specs.Sections.{Sections, node_words, node_count, node_word, tag_of, part_at, is_container}
use Rattle.image.specs.Tags.{choice_tag, divert_tag, reference_tag}
use Rattle.records.specs.Fields.{target_place, kind_of}
use Rattle.draft.specs.Draft.{write_words, reach_rule, shape_rule}
use Rattle.draft.specs.PathList.{path_word, path_of, list_right, follows, path_tables_rule, path_lists}
use Rattle.walks.specs.Walk.{component_words, index_kind, components, resolve, walks}

-- ---- the list beside the draft

-- entries, components as a walk takes them, the bytes of the components' names
pub record PathList : Type 0 where
  pub entries : List ℕ
  pub components : List ℕ
  pub names : List ℕ

abbrev pub path_list : List ℕ → List ℕ → List ℕ → PathList
path_list entries components names = record { entries = entries; components = components; names = names }

-- 19: broken entries, a node outside or twice, a flag above 1, components outside
unfoldable pub path_list_rule : Sections → PathList → ℕ
path_list_rule s p = unless (list_right (node_count s) (length p.components / component_words) p.entries) bad_draft

-- ---- where a path leads

-- the words of the components of entry k
unfoldable pub path_components : PathList → ℕ → List ℕ
path_components p k = part_at p.components (component_words * path_word p.entries k 2) (component_words * path_word p.entries k 3)

-- the node at the end of entry k, which is of node i
unfoldable pub path_end : Sections → PathList → ℕ → ℕ → Option ℕ
path_end s p i k = resolve s (eqb (path_word p.entries k 1) 1) i (components p.names (path_components p k))

-- the last of so many of the lent components, from component `first` on, is an index
unfoldable pub last_is_index : List ℕ → ℕ → ℕ → Bool
last_is_index lent first count = ltb 0 count && eqb (get_or lent (component_words * (first + count - 1)) 0) index_kind

-- the last component of entry k is an index
unfoldable pub ends_in_index : PathList → ℕ → Bool
ends_in_index p k = last_is_index p.components (path_word p.entries k 2) (path_word p.entries k 3)

-- a choice and a read count need a container, a divert unless the last component of its path is an index
unfoldable pub needs_container : ℕ → Bool → Bool
needs_container tag index = eqb tag choice_tag || eqb tag reference_tag || eqb tag divert_tag && not index

-- 25 where no node is at the path, 26 where it is no container though one is due
abbrev pub end_rule : Sections → Bool → Option ℕ → ℕ
end_rule s due None = no_target
end_rule s due (Some n) = unless (not due || is_container s n) no_container

-- what is refused of node i, if that is its entry
abbrev pub entry_rule : Sections → PathList → ℕ → Option ℕ → ℕ
entry_rule s p i None = 0
entry_rule s p i (Some k) = end_rule s (needs_container (tag_of s i) (ends_in_index p k)) (path_end s p i k)

unfoldable pub target_rule : Sections → PathList → ℕ → ℕ
target_rule s p i = cond (follows s p.entries i) (entry_rule s p i (path_of p.entries i)) 0

-- the writer's tests up to 21, with the list beside the tables; then the nodes in number order
unfoldable pub resolve_rule : ℕ → Sections → PathList → ℕ → ℕ
resolve_rule ink s p work =
    unless (ink_right ink) bad_ink_version
    ▸ path_list_rule s p
    ▸ path_tables_rule s p.entries
    ▸ unless (leb (write_words s) work) too_few_words
    ▸ reach_rule s
    ▸ shape_rule s
    ▸ first_of (node_count s) (target_rule s p)

-- ---- the resolved draft

abbrev pub found_node : Option ℕ → ℕ
found_node None = NONE
found_node (Some n) = n

abbrev pub entry_target : Sections → PathList → ℕ → Option ℕ → ℕ
entry_target s p i None = NONE
entry_target s p i (Some k) = found_node (path_end s p i k)

-- the target that is found for node i, NONE for a node that is passed over
unfoldable pub target_found : Sections → PathList → ℕ → ℕ
target_found s p i = cond (follows s p.entries i) (entry_target s p i (path_of p.entries i)) NONE

-- word k of a node is of its path text: f0 and f1 of a choice and a divert, f2 and f3 of a reference. A divert-target value keeps its text
unfoldable pub is_path_text : ℕ → ℕ → Bool
is_path_text tag k = (eqb tag choice_tag || eqb tag divert_tag) && (eqb k 3 || eqb k 4) || eqb tag reference_tag && (eqb k 5 || eqb k 6)

-- word k of a node that follows a path, by its tag, its target and what the word was: the target is set, the path text is absent
unfoldable pub followed_word : ℕ → ℕ → ℕ → ℕ → ℕ
followed_word tag target k w = cond (eqb k (3 + target_place (kind_of tag))) target (cond (is_path_text tag k) NONE w)

unfoldable pub resolved_word : Sections → PathList → ℕ → ℕ → ℕ
resolved_word s p i k = cond (follows s p.entries i) (followed_word (tag_of s i) (target_found s p i) k (node_word s i k)) (node_word s i k)

unfoldable pub resolved_node : Sections → PathList → ℕ → List ℕ
resolved_node s p i = join_of (node_words s.version) (λ k. resolved_word s p i k ∷ [])

unfoldable pub resolved_nodes : Sections → PathList → List ℕ
resolved_nodes s p = join_of (node_count s) (resolved_node s p)

abbrev pub resolved : Sections → PathList → Sections
resolved s p =
    record {
      version = s.version;
      nodes = resolved_nodes s p;
      children = s.children;
      named = s.named;
      definitions = s.definitions;
      items = s.items;
      index = s.index;
      payload = s.payload;
      strings = s.strings;
    }

-- the nodes' words on return, where the answer is r: a refused draft is unchanged
unfoldable pub nodes_after : ℕ → Sections → PathList → List ℕ
nodes_after r s p = cond (eqb r 0) (resolved_nodes s p) s.nodes

-- names on an `unfolding` line what a computation with this module needs
unfoldable pub targets : Unit {0}
unfolding path_list_rule path_components path_end last_is_index ends_in_index needs_container target_rule resolve_rule target_found is_path_text followed_word resolved_word resolved_node resolved_nodes nodes_after path_lists walks
targets = tt
