-- The loop's invariant: the four lanes, with what is left of the bytes, give the checksum of them all.
use mathlib.Core.Path.{◌≡◌}
use Prim.Native.Nat.{◌+◌, ◌-◌, ◌≤◌}
use lib.ListN.{length, drop}
use Rattle.checksum.specs.Crc.{crc_from}
use Rattle.checksum.specs.Lanes.{lanes_from}
use Rattle.checksum.proofs.update_lanes.Given as goal

abbrev pub invariant-loop-i : goal.invariant-loop-i
invariant-loop-i l = (l.i + 16 ≤ length l.s) × (lanes_from l.a l.b l.c l.d (drop l.i l.s) ≡ crc_from l.crc l.s)

abbrev pub decreases-loop-i : goal.decreases-loop-i
decreases-loop-i l = length l.s - l.i
