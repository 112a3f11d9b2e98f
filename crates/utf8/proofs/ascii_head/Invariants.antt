-- `utf8::ascii_head` meets its contract. The invariant: the bytes so far are ASCII.
use Prim.Native.Nat.{◌-◌}
use lib.ListN.{length}
use Rattle.utf8.specs.Places.{AsciiTo}
use Rattle.utf8.proofs.ascii_head.Given as goal

abbrev pub invariant-loop-i : goal.invariant-loop-i
invariant-loop-i l = AsciiTo l.s l.i

abbrev pub decreases-loop-i : goal.decreases-loop-i
decreases-loop-i l = length l.s - l.i
