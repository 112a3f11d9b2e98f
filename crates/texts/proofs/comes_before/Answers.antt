-- `texts::comes_before` meets its contract.
use mathlib.Core.Path.{◌∙◌}
use Rattle.texts.specs.Text.{before}
use Rattle.texts.proofs.Text.{not-less-before}
use Rattle.texts.proofs.comes_before.Goals as goal

pub returns-in-Less : goal.returns-in-Less
unfolding before
returns-in-Less c = rw (← c.compare.ensures, c.in-Less.is)

pub returns-in_default : goal.returns-in_default
returns-in_default c = not-less-before _ _ (λ e. c.in_default.not-Less (c.compare.ensures ∙ e))
