-- `sleeper::lists::definition_item_count` meets its contract.
use mathlib.Core.Path.{◌∙◌}
use Rattle.sleeper.proofs.Reading.{definition-missing, definition-there}
use borrow.Author.Rules.{rules}
use Rattle.sleeper.proofs.lists.definition_item_count.Goals as goal

pub returns-in_err-definition : goal.returns-in_err-definition
returns-in_err-definition c = c.from_residual.ensures ∙ search (rules, definition-missing)

pub returns : goal.returns
returns c = search (rules, definition-there)
