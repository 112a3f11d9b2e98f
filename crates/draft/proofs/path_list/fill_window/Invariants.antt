-- `draft::path_list::fill_window` meets its contract. The invariant: the nodes of the entries so far are marked, and `twice` tells whether each was new.
use Prim.Native.Nat.{◌≤◌, ◌-◌}
use mathlib.Core.Path.{◌≡◌}
use lib.Dec.{eqb}
use Rattle.laws.specs.Counted.{all_of}
use Rattle.draft.specs.PathWindows.{new_within}
use Rattle.draft.proofs.Windows.{Filled}
use Rattle.draft.proofs.path_list.fill_window.Given as goal

abbrev pub invariant-loop-k : goal.invariant-loop-k
invariant-loop-k l = (l.k ≤ l.count) × Filled l.entries l.number l.k l.window × (eqb l.twice 0 ≡ all_of l.k (new_within l.number l.entries))

abbrev pub decreases-loop-k : goal.decreases-loop-k
decreases-loop-k l = l.count - l.k
