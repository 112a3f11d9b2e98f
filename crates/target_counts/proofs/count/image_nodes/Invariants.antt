-- `target_counts::count::image_nodes` meets its contract.
use Prim.Native.Nat.{◌-◌}
use Rattle.words.specs.Words.{words_of}
use Rattle.target_counts.proofs.Counting.{nodes_alone, CountedSoFar}
use Rattle.target_counts.proofs.count.image_nodes.Given as goal

abbrev pub invariant-loop-i : goal.invariant-loop-i
invariant-loop-i l = CountedSoFar (nodes_alone l.version (words_of l.part)) l.count l.initial.summary l.summary l.i

abbrev pub decreases-loop-i : goal.decreases-loop-i
decreases-loop-i l = l.count - l.i
