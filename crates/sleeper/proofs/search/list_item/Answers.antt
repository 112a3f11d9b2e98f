-- `sleeper::search::list_item` meets its contract.
use Rattle.sleeper.proofs.Reading.{list-item-seen}
use borrow.Author.Rules.{rules}
use Rattle.sleeper.proofs.search.list_item.Goals as goal

pub returns : goal.returns
returns c = search (rules, list-item-seen)
