-- `sleeper::places::definition_text` meets its contract.
use Rattle.sleeper.proofs.TextPlaces.{definition-there}
use borrow.Author.Rules.{rules}
use Rattle.sleeper.proofs.places.definition_text.Goals as goal

pub returns : goal.returns
returns c = search (rules, definition-there)
