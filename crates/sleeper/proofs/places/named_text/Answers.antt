-- `sleeper::places::named_text` meets its contract.
use Rattle.sleeper.proofs.TextPlaces.{named-there}
use borrow.Author.Rules.{rules}
use Rattle.sleeper.proofs.places.named_text.Goals as goal

pub returns : goal.returns
returns c = search (rules, named-there)
