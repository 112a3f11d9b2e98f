-- `target_counts::count::words_hold` meets its contract.
use Prim.Native.Nat.{◌-◌}
use Rattle.image.specs.Sections.{node_count}
use Rattle.target_counts.proofs.Counting.{nodes_alone, HoldSoFar}
use Rattle.target_counts.proofs.count.words_hold.Given as goal

abbrev pub invariant-loop-n : goal.invariant-loop-n
invariant-loop-n l = HoldSoFar (nodes_alone l.source.version l.nodes) l.n

abbrev pub decreases-loop-n : goal.decreases-loop-n
decreases-loop-n l = node_count (nodes_alone l.source.version l.nodes) - l.n
