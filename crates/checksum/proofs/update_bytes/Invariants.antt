-- The loop's invariant: what is left of the bytes, from the checksum so far, gives the checksum of them all.
use mathlib.Core.Path.{◌≡◌}
use lib.ListN.{drop}
use Rattle.checksum.specs.Crc.{crc_from}
use Rattle.checksum.proofs.update_bytes.Given as goal

abbrev pub invariant-loop-byte : goal.invariant-loop-byte
invariant-loop-byte l = crc_from l.c (drop l.byte-index l.bytes) ≡ crc_from l.crc l.bytes
