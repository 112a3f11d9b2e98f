-- `utf8::white_latin` meets its contract.
use mathlib.Core.Path.{sym}
use borrow.Author.Tests.{ne_eqb}
use Rattle.utf8.specs.White.{blanks}
use Rattle.utf8.proofs.white_latin.Goals as goal

pub returns-then-c-eq133 : goal.returns-then-c-eq133
unfolding blanks
returns-then-c-eq133 c = rw c.if-c-eq133.true

pub returns-then-c-eq160 : goal.returns-then-c-eq160
unfolding blanks
returns-then-c-eq160 c = rw c.if-c-eq160.true

pub returns : goal.returns
unfolding blanks
returns c = rw (ne_eqb 0x85 _ (λ e. c.if-c-eq133.false (sym e)), ne_eqb 0xa0 _ (λ e. c.if-c-eq160.false (sym e)))
