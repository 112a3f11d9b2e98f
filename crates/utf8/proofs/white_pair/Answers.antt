-- `utf8::white_pair` meets its contract.
use mathlib.Core.Path.{sym}
use borrow.Author.Tests.{eq-eqb, ne_eqb}
use Rattle.utf8.specs.White.{blanks}
use Rattle.utf8.proofs.white_pair.Goals as goal

pub returns-then-c-second : goal.returns-then-c-second
unfolding blanks
returns-then-c-second c = rw (ne_eqb _ c.args.c (λ e. c.if-c-second.true (sym e)))

pub returns-then-d-third : goal.returns-then-d-third
unfolding blanks
returns-then-d-third c = rw (eq-eqb _ c.args.c (sym c.if-c-second.false), ne_eqb _ c.args.d (λ e. c.if-d-third.true (sym e)))

pub returns : goal.returns
unfolding blanks
returns c = rw (eq-eqb _ c.args.c (sym c.if-c-second.false), eq-eqb _ c.args.d (sym c.if-d-third.false))
