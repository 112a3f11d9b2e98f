-- The last block, then the last sequence.
use borrow.Author.Tests.{not-true, not-false}
use Rattle.utf8.specs.Places.{ends}
use Rattle.utf8.proofs.Blocks.{flag-zero}
use Rattle.utf8.proofs.end_right.Goals as goal

pub returns-then-not-block_right : goal.returns-then-not-block_right
returns-then-not-block_right c =
    let f = c.block_right in
    rw (← f.ensures, not-true f.result c.if-not-block_right.true-raw)

pub returns : goal.returns
unfolding ends
returns c =
    let f = c.block_right in
    let d = c.due_bit in
    rw (← f.ensures, not-false f.result c.if-not-block_right.false-raw) (flag-zero d.result _ d.ensures)
