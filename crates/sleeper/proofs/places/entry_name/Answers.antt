-- `sleeper::places::entry_name` meets its contract.
use Rattle.sleeper.proofs.TextPlaces.{name-there}
use borrow.Author.Rules.{rules}
use Rattle.sleeper.proofs.places.entry_name.Goals as goal

pub returns : goal.returns
returns c = search (rules, name-there)
