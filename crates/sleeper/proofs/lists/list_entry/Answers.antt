-- `sleeper::lists::list_entry` meets its contract.
use mathlib.Core.Path.{◌∙◌}
use Rattle.sleeper.proofs.Reading.{entry-missing, entry-there}
use borrow.Author.Rules.{rules}
use Rattle.sleeper.proofs.lists.list_entry.Goals as goal

pub returns-in_err-entry : goal.returns-in_err-entry
returns-in_err-entry c = c.from_residual.ensures ∙ search (rules, entry-missing)

pub returns : goal.returns
returns c = search (rules, entry-there)
