-- `sleeper::places::origin_text` meets its contract.
use Rattle.sleeper.proofs.TextPlaces.{origin-there}
use borrow.Author.Rules.{rules}
use Rattle.sleeper.proofs.places.origin_text.Goals as goal

pub returns : goal.returns
returns c = search (rules, origin-there)
