-- `target_counts::count::pointed_at` meets its contract.
use Prim.Native.Nat.{◌-◌}
use Rattle.image.specs.Sections.{node_count}
use Rattle.target_counts.proofs.Counting.{nodes_alone, PointedSoFar}
use Rattle.target_counts.proofs.count.pointed_at.Given as goal

abbrev pub invariant-loop-i : goal.invariant-loop-i
invariant-loop-i l = PointedSoFar (nodes_alone l.source.version l.nodes) l.n l.pointed l.i

abbrev pub decreases-loop-i : goal.decreases-loop-i
decreases-loop-i l = node_count (nodes_alone l.source.version l.nodes) - l.i
