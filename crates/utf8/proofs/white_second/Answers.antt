-- `utf8::white_second` meets its contract.
use mathlib.Core.Path.{sym}
use native.Mathlib.Omega.{arith}
use borrow.Author.Tests.{ne_eqb}
use Rattle.utf8.specs.White.{blanks}
use Rattle.utf8.proofs.WhiteSpace.{second}
use Rattle.utf8.proofs.white_second.Goals as goal

pub returns-then-c-eq128 : goal.returns-then-c-eq128
unfolding blanks
returns-then-c-eq128 c = rw c.if-c-eq128.true c.white_third.ensures

pub returns-then-c-ne129 : goal.returns-then-c-ne129
returns-then-c-ne129 c = second c.args.c _ (omega arith) c.if-c-eq128.false c.if-c-ne129.true

pub returns-then-d-ne159 : goal.returns-then-d-ne159
unfolding blanks
returns-then-d-ne159 c = rw (c.if-c-ne129.false, ne_eqb 0x9f _ (λ e. c.if-d-ne159.true (sym e)))

pub returns : goal.returns
unfolding blanks
returns c = rw (c.if-c-ne129.false, c.if-d-ne159.false)
