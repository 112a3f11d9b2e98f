-- The loop's invariant: what is left of the bytes, from the checksum so far, gives the checksum of them all.
use mathlib.Core.Path.{refl, ◌∙◌}
use native.Mathlib.Omega.{arith}
use Rattle.checksum.proofs.Checksums.{crc_next, crc_end}
use Rattle.checksum.proofs.update_bytes.Goals as goal

pub loop-byte-init : goal.loop-byte-init
loop-byte-init c = refl

pub loop-byte-preserved : goal.loop-byte-preserved
loop-byte-preserved c =
    let loop = c.loop-byte in
    rw c.update-c.ensures (crc_next loop.c c.args.bytes.now loop.byte-index (omega arith) ∙ loop.invariant)

pub returns : goal.returns
returns c =
    let loop = c.loop-byte in
    crc_end loop.c c.args.bytes.now loop.byte-index (omega arith) ∙ loop.invariant
