-- `sleeper::text::text_length` meets its contract.
use mathlib.Core.Path.{◌∙◌}
use Rattle.sleeper.proofs.TextPlaces.{no_length, length-there}
use borrow.Author.Rules.{rules}
use Rattle.sleeper.proofs.text.text_length.Goals as goal

pub returns-in_err-text : goal.returns-in_err-text
returns-in_err-text c = c.from_residual.ensures ∙ search (rules, no_length)

pub returns : goal.returns
returns c = search (rules, length-there)
