-- What is tested with the work words, and what the nodes are then.
use Rattle.std.specs.Prelude.{ℕ, ◌≡◌, List}
use Rattle.laws.specs.Refusal.{◌▸◌, first_of}
use Rattle.image.specs.Sections.{Sections, node_count}
use Rattle.draft.specs.Draft.{reach_rule, shape_rule}
use Rattle.target_finding.specs.Targets.{PathList, target_rule, nodes_after}

abbrev pub late_rule : Sections → PathList → ℕ
late_rule s p = reach_rule s ▸ shape_rule s ▸ first_of (node_count s) (target_rule s p)

-- the answer, and the nodes' words where it is r
pub record Late (s : Sections) (p : PathList) (nodes : List ℕ) (r : ℕ) : Type 0 where
  pub answer : r ≡ late_rule s p
  pub draft : nodes ≡ nodes_after r s p
