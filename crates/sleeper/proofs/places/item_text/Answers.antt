-- `sleeper::places::item_text` meets its contract.
use Rattle.sleeper.proofs.TextPlaces.{item-there}
use borrow.Author.Rules.{rules}
use Rattle.sleeper.proofs.places.item_text.Goals as goal

pub returns : goal.returns
returns c = search (rules, item-there)
