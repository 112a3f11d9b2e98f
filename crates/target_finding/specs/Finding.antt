-- What is found for one node and for all of them, as the code answers it.
use Rattle.std.specs.Prelude.{ℕ, ◌+◌, ◌*◌, ◌≤◌, ◌<◌, ◌≡◌, List, Bool, cond, length, get_or, eqb, Option, Err, Ok, Result}
use Rattle.laws.specs.Refusal.{first_of}
use Rattle.words.specs.Words.{NONE}
use Rattle.image.specs.Sections.{Sections, node_count, tag_of, part_at}
use Rattle.image.specs.Entries.{node_in}
use Rattle.draft.specs.declared.path_list.PathEntry.{PathEntry}
use Rattle.draft.specs.PathList.{path_count, path_word, path_origin, may_follow}
use Rattle.walks.specs.Walk.{component_words, components, resolve}
use Rattle.target_finding.specs.Targets.{PathList, last_is_index, needs_container, end_rule, target_rule, found_node, target_found}

-- the components of every entry are among those that are lent
abbrev pub ComponentsInside : List ℕ → List ℕ → Type 0
ComponentsInside entries lent = (k : ℕ) → k < path_count entries → component_words * (path_word entries k 2 + path_word entries k 3) ≤ length lent

-- every entry is of one of so many nodes
abbrev pub OriginsInside : ℕ → List ℕ → Type 0
OriginsInside n entries = (k : ℕ) → k < path_count entries → path_origin entries k < n

-- no two entries are of one node
abbrev pub OriginsApart : List ℕ → Type 0
OriginsApart entries = (j k : ℕ) → j < k → k < path_count entries → path_origin entries j ≡ path_origin entries k → ⊥

-- so many words are NONE
abbrev pub NoneBelow : List ℕ → ℕ → Type 0
NoneBelow work n = (i : ℕ) → i < n → get_or work i 0 ≡ NONE

-- the answer by the rule's number and the target that is found, NONE for a node that is passed over
unfoldable pub target_by : ℕ → ℕ → Result ℕ ℕ
target_by r target = cond (eqb r 0) (Ok target) (Err r)

-- the end of the path that an entry tells
unfoldable pub end_of : Sections → List ℕ → List ℕ → PathEntry → Option ℕ
end_of s lent names e =
    resolve s (eqb e.relative 1) e.node (components names (part_at lent (component_words * e.first) (component_words * e.count)))

-- whether it has to be a container, for a node of this tag
abbrev pub due_of : List ℕ → ℕ → PathEntry → Bool
due_of lent tag e = needs_container tag (last_is_index lent e.first e.count)

-- what is answered of an end
abbrev pub end_target : Sections → Bool → Option ℕ → Result ℕ ℕ
end_target s due x = target_by (end_rule s due x) (found_node x)

-- what is answered of an entry: its node is passed over where it may not follow a path
unfoldable pub entry_answer : Sections → List ℕ → List ℕ → PathEntry → Result ℕ ℕ
entry_answer s lent names e =
    cond (may_follow (node_in s e.node)) (end_target s (due_of lent (tag_of s e.node) e) (end_of s lent names e)) (Ok NONE)

-- of every node: the first number, and if there is none, the targets in the work words
pub record AllFound (s : Sections) (p : PathList) (work : List ℕ) (r : ℕ) : Type 0 where
  pub answer : r ≡ first_of (node_count s) (target_rule s p)
  pub words : r ≡ 0 → (i : ℕ) → i < node_count s → get_or work i 0 ≡ target_found s p i
