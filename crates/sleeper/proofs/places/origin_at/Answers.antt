-- `sleeper::places::origin_at` meets its contract.
use Rattle.sleeper.proofs.TextPlaces.{origin_of_parts}
use borrow.Author.Rules.{rules}
use Rattle.sleeper.proofs.places.origin_at.Goals as goal

pub returns : goal.returns
returns c = search (rules, origin_of_parts)
