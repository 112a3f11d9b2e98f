-- A word by four tables is 128 shifts of it.
use mathlib.Core.Path.{◌≡◌, ◌∙◌}
use Prim.Native.Nat.{◌/◌, ◌%◌}
use native.Mathlib.Omega.{arith}
use Rattle.checksum.proofs.Tables.{by_tables}
use Rattle.checksum.proofs.shift_block.Goals as goal

pub returns : goal.returns
returns c =
    let x = c.args.x in
    let i : c.from.result ≡ x % 256 = c.from.ensures ∙ rw c.to_le_bytes.ensures (omega arith) in
    let j : c.from-2.result ≡ x / 256 % 256 = c.from-2.ensures ∙ rw c.to_le_bytes.ensures (omega arith) in
    let k : c.from-3.result ≡ x / 65536 % 256 = c.from-3.ensures ∙ rw c.to_le_bytes.ensures (omega arith) in
    let l : c.from-4.result ≡ x / 16777216 = c.from-4.ensures ∙ rw c.to_le_bytes.ensures (omega arith) in
    rw (c.lane_tables-tables.ensures, i, j, k, l) (by_tables x (omega arith))
