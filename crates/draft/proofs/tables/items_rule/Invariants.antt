-- `draft::tables::items_rule` meets its contract. The invariant: the items before `j` pass.
use Prim.Native.Nat.{◌≤◌, ◌-◌}
use mathlib.Core.Path.{◌≡◌}
use mathlib.Core.List.{[]}
use Rattle.laws.specs.Refusal.{first_of}
use Rattle.draft.specs.Source.{draft_of}
use Rattle.draft.specs.Draft.{draft_item_rule}
use Rattle.draft.proofs.tables.items_rule.Given as goal

abbrev pub invariant-loop-j : goal.invariant-loop-j
invariant-loop-j l = (l.j ≤ l.count) × (first_of l.j (draft_item_rule (draft_of 0 [] [] [] [] l.items [] l.strings)) ≡ 0)

abbrev pub decreases-loop-j : goal.decreases-loop-j
decreases-loop-j l = l.count - l.j
