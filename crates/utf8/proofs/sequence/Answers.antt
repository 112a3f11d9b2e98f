-- The first byte decides: its row of the table by its length, and the range that it gives the byte after it.
use borrow.Author.Rules.{rules}
use native.Mathlib.Omega.{arith}
use mathlib.Core.Path.{refl}
use Rattle.utf8.specs.Utf8.{◌··◌}
use Rattle.utf8.proofs.Table.{table, row_at, none_at, none_left, three_at, four_at_lem}
use Rattle.utf8.proofs.sequence.Goals as goal

pub returns-then-b-lt128 : goal.returns-then-b-lt128
unfolding table
returns-then-b-lt128 c =
    let a = c.args in
    row_at a.s.now a.at 0 1 (0x00 ·· 0x7f) _ (search rules) refl refl (omega arith) (omega arith) (none_left _ 1)

pub returns-then-b-lt194 : goal.returns-then-b-lt194
unfolding table
returns-then-b-lt194 c =
    let a = c.args in
    none_at a.s.now a.at (0x80 ·· 0xc1) (search rules) refl (omega arith) (omega arith)

pub returns-then-b-lt224 : goal.returns-then-b-lt224
unfolding table
returns-then-b-lt224 c =
    let a = c.args in
    row_at a.s.now a.at 1 _ (0xc2 ·· 0xdf) _ (search rules) refl refl (omega arith) (omega arith) c.two.ensures

pub returns-then-b-lt240 : goal.returns-then-b-lt240
returns-then-b-lt240 c =
    let a = c.args in
    three_at a.s.now a.at _ _ _ (search rules) c.lowest.ensures c.highest.ensures (omega arith) (omega arith) c.three.ensures

pub returns-then-b-ge245 : goal.returns-then-b-ge245
unfolding table
returns-then-b-ge245 c =
    let known = c in
    let a = known.args in
    none_at a.s.now a.at (0xf5 ·· 0xff) (search rules) refl (omega arith) (omega (arith, known.shared_slice_known-2-1.given a.at))

pub returns : goal.returns
returns c =
    let a = c.args in
    four_at_lem a.s.now a.at _ _ _ (search rules) c.lowest-2.ensures c.highest-2.ensures (omega arith) (omega arith) c.four.ensures
