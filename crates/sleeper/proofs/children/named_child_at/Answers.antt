-- `sleeper::children::named_child_at` meets its contract.
use mathlib.Core.Path.{◌∙◌}
use Rattle.sleeper.proofs.Reading.{named-missing, named-there}
use borrow.Author.Rules.{rules}
use Rattle.sleeper.proofs.children.named_child_at.Goals as goal

pub returns-in_err-child : goal.returns-in_err-child
returns-in_err-child c = c.from_residual.ensures ∙ search (rules, named-missing)

pub returns : goal.returns
returns c = search (rules, named-there)
