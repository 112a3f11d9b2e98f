-- `utf8::valid_short` meets its contract. The invariant: whole sequences have passed.
use Prim.Native.Nat.{◌-◌}
use lib.ListN.{length}
use Rattle.utf8.specs.Runs.{Passes}
use Rattle.utf8.specs.Utf8.{rows, size_in}
use Rattle.utf8.proofs.valid_short.Given as goal

abbrev pub invariant-loop-i : goal.invariant-loop-i
invariant-loop-i l = Passes (size_in rows) l.s 0 l.i

abbrev pub decreases-loop-i : goal.decreases-loop-i
decreases-loop-i l = length l.s - l.i
