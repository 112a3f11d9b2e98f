-- `sleeper::places::entry_at` meets its contract.
use Rattle.sleeper.proofs.TextPlaces.{entry_of_parts}
use borrow.Author.Rules.{rules}
use Rattle.sleeper.proofs.places.entry_at.Goals as goal

pub returns : goal.returns
returns c = search (rules, entry_of_parts)
