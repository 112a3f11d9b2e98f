-- `texts::equal` meets its contract.
use mathlib.Core.Path.{sym, ◌∙◌}
use borrow.Author.Tests.{ne_eqb}
use Rattle.texts.specs.Text.{same}
use Rattle.texts.proofs.Text.{length-same, not-equal-same}
use Rattle.texts.proofs.equal.Goals as goal

pub returns-in-Equal : goal.returns-in-Equal
unfolding same
returns-in-Equal c = rw (← c.compare.ensures, c.in-Equal.is)

pub returns-in_default : goal.returns-in_default
returns-in_default c = not-equal-same _ _ (λ e. c.in_default.not-Equal (c.compare.ensures ∙ e))

pub returns-else-a-b : goal.returns-else-a-b
returns-else-a-b c = ne_eqb _ _ c.if-a-b.false ∙ sym (length-same _ _ c.if-a-b.false)
