-- `draft::path_list::list_right` meets its contract. The invariant: each entry so far is right by itself.
use Prim.Native.Nat.{◌≤◌, ◌-◌}
use mathlib.Core.Path.{◌≡◌}
use mathlib.Core.Bool.{true}
use Rattle.laws.specs.Counted.{all_of}
use Rattle.draft.specs.PathEntries.{entry_right}
use Rattle.draft.proofs.path_list.list_right.Given as goal

abbrev pub invariant-loop-k : goal.invariant-loop-k
invariant-loop-k l = (l.k ≤ l.count) × (all_of l.k (entry_right l.nodes l.components l.entries) ≡ true)

abbrev pub decreases-loop-k : goal.decreases-loop-k
decreases-loop-k l = l.count - l.k
