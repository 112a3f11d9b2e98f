-- The word that a lane reads is four bytes of the list.
use mathlib.Core.Path.{sym, ap, ◌∙◌}
use Prim.Native.Nat.{◌+◌}
use native.Mathlib.Omega.{arith}
use lib.Bits.{bit_xor}
use Rattle.checksum.specs.Crc.{shifts}
use Rattle.checksum.specs.Lanes.{little_endian}
use Rattle.checksum.proofs.Lanes.{four_of, from_bytes}
use Rattle.checksum.proofs.lane.Goals as goal

pub returns : goal.returns
returns c =
    let start = c in
    let a = start.args in
    c.shift_block.ensures
    ∙ ap (λ x. shifts 128 (bit_xor a.crc x)) (from_bytes _ _ _ _ _ (omega (arith, c.type_inv.s a.i)) (omega (arith, c.type_inv.s (a.i + 1))) (omega (arith, c.type_inv.s (a.i + 2))) (omega (arith, c.type_inv.s (a.i + 3))) (omega (arith, c.from_le_bytes.ensures)) ∙ ap little_endian (sym (four_of a.s.now a.i start.requires)))
