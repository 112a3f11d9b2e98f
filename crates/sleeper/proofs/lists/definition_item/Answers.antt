-- `sleeper::lists::definition_item` meets its contract.
use mathlib.Core.Path.{◌∙◌}
use Rattle.sleeper.proofs.Reading.{definition-item-missing, definition-item-there}
use borrow.Author.Rules.{rules}
use Rattle.sleeper.proofs.lists.definition_item.Goals as goal

pub returns-in_err-item : goal.returns-in_err-item
returns-in_err-item c = c.from_residual.ensures ∙ search (rules, definition-item-missing)

pub returns : goal.returns
returns c = search (rules, definition-item-there)
