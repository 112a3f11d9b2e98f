-- `draft_tree::listed::all_ones` meets its contract. The invariant: the words before `i` are marked.
use Prim.Native.Nat.{ℕ, ◌<◌, ◌-◌}
use mathlib.Core.Path.{◌≡◌}
use lib.ListN.{get_or}
use Rattle.draft_tree.proofs.listed.all_ones.Given as goal

abbrev pub invariant-loop-i : goal.invariant-loop-i
invariant-loop-i l = (0 < l.i) × ((k : ℕ) → 0 < k → k < l.i → get_or l.work k 0 ≡ 1)

abbrev pub decreases-loop-i : goal.decreases-loop-i
decreases-loop-i l = l.count - l.i
