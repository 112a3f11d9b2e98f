-- `utf8::valid_from` meets its contract. The invariant: the bytes so far are right.
use mathlib.Core.Path.{sym, ◌∙◌}
use native.Mathlib.Omega.{arith}
use borrow.Author.Tests.{not-true, not-false}
use Rattle.utf8.proofs.Blocks.{passed_block, block_wrong}
use Rattle.utf8.proofs.valid_from.Goals as goal

pub loop-i-init : goal.loop-i-init
loop-i-init c = c.requires.1

pub returns-then-not-blocks_right : goal.returns-then-not-blocks_right
returns-then-not-blocks_right c =
    let l = c.loop-i in
    let f = c.blocks_right in
    block_wrong _ (omega arith) l.i 64 (omega arith) (sym f.ensures ∙ not-true f.result c.if-not-blocks_right.true-raw)

pub loop-i-preserved : goal.loop-i-preserved
loop-i-preserved c =
    let l = c.loop-i in
    let f = c.blocks_right in
    passed_block 64 l.invariant (omega arith) (sym f.ensures ∙ not-false f.result c.if-not-blocks_right.false-raw)
