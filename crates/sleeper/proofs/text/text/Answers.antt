-- `sleeper::text::text` meets its contract.
use Rattle.sleeper.proofs.TextPlaces.{no_text, text-there}
use borrow.Author.Rules.{rules}
use Rattle.sleeper.proofs.text.text.Goals as goal

pub returns-in-None : goal.returns-in-None
returns-in-None c = search (rules, no_text)

pub returns-in-Some : goal.returns-in-Some
returns-in-Some c = search (rules, text-there)
