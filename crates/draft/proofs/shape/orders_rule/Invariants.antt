-- `draft::shape::orders_rule` meets its contract. The invariant: the definitions before `d` pass.
use Prim.Native.Nat.{◌≤◌, ◌-◌}
use mathlib.Core.Path.{◌≡◌}
use mathlib.Core.List.{[]}
use Rattle.laws.specs.Refusal.{first_of}
use Rattle.draft.specs.Source.{draft_of}
use Rattle.draft.specs.Draft.{order_rule}
use Rattle.draft.proofs.shape.orders_rule.Given as goal

abbrev pub invariant-loop-d : goal.invariant-loop-d
invariant-loop-d l = (l.d ≤ l.count) × (first_of l.d (order_rule (draft_of 0 [] [] [] l.definitions l.items [] l.strings)) ≡ 0)

abbrev pub decreases-loop-d : goal.decreases-loop-d
decreases-loop-d l = l.count - l.d
