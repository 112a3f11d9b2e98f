-- `sleeper::lists::definition_first_item` meets its contract.
use mathlib.Core.Path.{◌∙◌}
use Rattle.sleeper.proofs.Reading.{first-missing, first-none, first-there}
use borrow.Author.Rules.{rules}
use Rattle.sleeper.proofs.lists.definition_first_item.Goals as goal

pub returns-in_err-definition : goal.returns-in_err-definition
returns-in_err-definition c = c.from_residual.ensures ∙ search (rules, first-missing)

pub returns-in_err-found : goal.returns-in_err-found
returns-in_err-found c = c.from_residual-in_err-found.ensures ∙ search (rules, first-none)

pub returns : goal.returns
returns c = search (rules, first-there)
