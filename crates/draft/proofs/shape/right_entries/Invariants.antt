-- `draft::shape::right_entries` meets its contract. The invariant: the tests so far pass.
use Prim.Native.Nat.{◌≤◌, ◌-◌}
use mathlib.Core.Path.{◌≡◌}
use mathlib.Core.Bool.{true}
use Rattle.laws.specs.Counted.{all_of}
use Rattle.draft.specs.Shown.{named_right}
use Rattle.draft.proofs.shape.right_entries.Given as goal

abbrev pub invariant-loop-j : goal.invariant-loop-j
invariant-loop-j l = (l.j ≤ l.count) × (all_of l.j (named_right l.source.version l.nodes l.named l.strings l.id l.first) ≡ true)

abbrev pub decreases-loop-j : goal.decreases-loop-j
decreases-loop-j l = l.count - l.j
