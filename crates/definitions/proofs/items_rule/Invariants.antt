-- `definitions::items_rule` meets its contract. The invariant: no item so far is refused.
use Prim.Native.Nat.{◌≤◌, ◌-◌}
use mathlib.Core.Path.{◌≡◌}
use mathlib.Core.List.{[]}
use Rattle.laws.specs.Refusal.{first_of}
use Rattle.definitions.specs.Definitions.{item_rule_from}
use Rattle.definitions.specs.Parts.{definition_parts}
use Rattle.definitions.proofs.items_rule.Given as goal

abbrev pub invariant-loop-place : goal.invariant-loop-place
invariant-loop-place l = (l.place ≤ l.count) × (first_of l.place (item_rule_from (definition_parts [] l.items l.strings) l.first) ≡ 0)

abbrev pub decreases-loop-place : goal.decreases-loop-place
decreases-loop-place l = l.count - l.place
