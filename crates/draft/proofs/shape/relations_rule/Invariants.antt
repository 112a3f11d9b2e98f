-- `draft::shape::relations_rule` meets its contract. The invariant: the nodes before `i` pass.
use Prim.Native.Nat.{◌≤◌, ◌-◌}
use mathlib.Core.Path.{◌≡◌}
use mathlib.Core.List.{[]}
use Rattle.laws.specs.Refusal.{first_of}
use Rattle.draft.specs.Source.{draft_of}
use Rattle.draft.specs.Draft.{relation_rule}
use Rattle.draft.proofs.shape.relations_rule.Given as goal

abbrev pub invariant-loop-i : goal.invariant-loop-i
invariant-loop-i l =
    (l.i ≤ l.count) × (first_of l.i (relation_rule (draft_of l.source.version l.nodes l.children l.named [] [] [] l.strings)) ≡ 0)

abbrev pub decreases-loop-i : goal.decreases-loop-i
decreases-loop-i l = l.count - l.i
