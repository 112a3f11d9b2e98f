-- `draft::path_list::none_twice` meets its contract. The invariant: no node of the windows so far has two entries.
use Prim.Native.Nat.{◌≤◌, ◌-◌}
use mathlib.Core.Path.{◌≡◌}
use mathlib.Core.Bool.{true}
use Rattle.laws.specs.Counted.{all_of}
use Rattle.draft.specs.PathWindows.{once_within}
use Rattle.draft.proofs.path_list.none_twice.Given as goal

abbrev pub invariant-loop-number : goal.invariant-loop-number
invariant-loop-number l = (l.number ≤ l.windows) × (all_of l.number (λ n. once_within n l.entries) ≡ true)

abbrev pub decreases-loop-number : goal.decreases-loop-number
decreases-loop-number l = l.windows - l.number
