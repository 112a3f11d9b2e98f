-- `draft::tables::definitions_rule` meets its contract. The invariant: the definitions before `d` pass, and `used` is how many items they
use Prim.Native.Nat.{◌≤◌, ◌-◌}
use mathlib.Core.Path.{◌≡◌}
use mathlib.Core.List.{[]}
use Rattle.laws.specs.Refusal.{first_of}
use Rattle.definitions.specs.Definitions.{items_before}
use Rattle.draft.specs.Source.{draft_of}
use Rattle.draft.specs.Draft.{draft_definition_rule}
use Rattle.draft.proofs.tables.definitions_rule.Given as goal

abbrev pub invariant-loop-d : goal.invariant-loop-d
invariant-loop-d l =
    (l.d ≤ l.count) × (l.used ≡ items_before (draft_of 0 [] [] [] l.definitions l.items [] l.strings) l.d)
    × (first_of l.d (draft_definition_rule (draft_of 0 [] [] [] l.definitions l.items [] l.strings)) ≡ 0)

abbrev pub decreases-loop-d : goal.decreases-loop-d
decreases-loop-d l = l.count - l.d
