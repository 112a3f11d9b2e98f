-- `draft::shape::items_rise` meets its contract. The invariant: the tests so far pass.
use Prim.Native.Nat.{◌≤◌, ◌-◌}
use mathlib.Core.Path.{◌≡◌}
use mathlib.Core.Bool.{true}
use Rattle.laws.specs.Counted.{all_of}
use Rattle.texts.specs.Text.{rising}
use Rattle.image.specs.Entries.{entry_text_from}
use Rattle.draft.proofs.shape.items_rise.Given as goal

abbrev pub invariant-loop-j : goal.invariant-loop-j
invariant-loop-j l = (l.j ≤ l.count) × (all_of l.j (rising (entry_text_from l.items l.strings l.first)) ≡ true)

abbrev pub decreases-loop-j : goal.decreases-loop-j
decreases-loop-j l = l.count - l.j
