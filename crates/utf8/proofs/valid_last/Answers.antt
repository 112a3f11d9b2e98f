-- The bytes that are left are those of one block or two.
use Prim.Native.Nat.{◌-◌}
use mathlib.Core.Path.{sym, ◌∙◌}
use native.Mathlib.Omega.{arith}
use borrow.Author.Tests.{not-true, not-false}
use lib.ListN.{length}
use Rattle.utf8.proofs.Blocks.{passed_block, passed_end, block_wrong}
use Rattle.utf8.proofs.valid_last.Goals as goal

pub returns-then-s-at-lt35 : goal.returns-then-s-at-lt35
returns-then-s-at-lt35 c =
    let start = c in
    let s = start.args.s.now in
    c.end_right.ensures ∙ passed_end (length s - 35) 32 start.requires.2 (omega arith) (omega arith)

pub returns-then-not-block_right : goal.returns-then-not-block_right
returns-then-not-block_right c =
    let start = c in
    let f = c.block_right in
    block_wrong _ (omega arith) start.args.at 32 (omega arith) (sym f.ensures ∙ not-true f.result c.if-not-block_right.true-raw)

pub returns : goal.returns
returns c =
    let start = c in
    let s = start.args.s.now in
    let f = c.block_right in
    c.end_right-2.ensures
    ∙ passed_end (length s - 35) 32 (passed_block 32 start.requires.2 (omega arith) (sym f.ensures ∙ not-false f.result c.if-not-block_right.false-raw)) (omega arith) (omega arith)
