-- `definitions::definitions_rule` meets its contract. The invariant: no definition so far is refused, and `used` is how many items they have.
use Prim.Native.Nat.{◌≤◌, ◌-◌}
use mathlib.Core.Path.{◌≡◌}
use Rattle.laws.specs.Refusal.{first_of}
use Rattle.definitions.specs.Definitions.{items_before, definition_rule}
use Rattle.definitions.specs.Parts.{definition_parts}
use Rattle.definitions.proofs.definitions_rule.Given as goal

abbrev pub invariant-loop-d : goal.invariant-loop-d
invariant-loop-d l =
    (l.d ≤ l.count) × (l.used ≡ items_before (definition_parts l.definitions l.items l.strings) l.d) × (first_of l.d (definition_rule (definition_parts l.definitions l.items l.strings)) ≡ 0)

abbrev pub decreases-loop-d : goal.decreases-loop-d
decreases-loop-d l = l.count - l.d
