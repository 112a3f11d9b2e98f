-- `utf8::blocks_right` meets its contract.
use mathlib.Core.Path.{sym}
use native.Mathlib.Omega.{arith}
use borrow.Author.Tests.{not-true, not-false}
use Rattle.utf8.proofs.Blocks.{one_wrong, two_right}
use Rattle.utf8.proofs.blocks_right.Goals as goal

pub returns-then-blocks_short : goal.returns-then-blocks_short
returns-then-blocks_short c = sym (c.blocks_short.ensures c.if-blocks_short.true)

pub returns-then-not-block_right : goal.returns-then-not-block_right
returns-then-not-block_right c =
    let a = c.args in
    let f = c.block_right in
    one_wrong a.s.now a.at 32 64 f.result f.ensures (not-true f.result c.if-not-block_right.true-raw) (omega arith)

pub returns : goal.returns
returns c =
    let a = c.args in
    let f = c.block_right in
    let g = c.block_right-2 in
    two_right a.s.now a.at 32 32 f.result g.result f.ensures (not-false f.result c.if-not-block_right.false-raw) g.ensures
