-- `utf8::is_blank` meets its contract. The invariant: whole White_Space characters have passed.
use Prim.Native.Nat.{◌-◌}
use lib.ListN.{length}
use Rattle.utf8.specs.Runs.{Passes}
use Rattle.utf8.specs.White.{whites, front_of}
use Rattle.utf8.proofs.is_blank.Given as goal

abbrev pub invariant-loop-i : goal.invariant-loop-i
invariant-loop-i l = Passes (front_of whites) l.s 0 l.i

abbrev pub decreases-loop-i : goal.decreases-loop-i
decreases-loop-i l = length l.s - l.i
