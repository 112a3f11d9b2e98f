-- `sleeper::search::find_named_child` meets its contract.
use Rattle.sleeper.proofs.Reading.{find-seen}
use borrow.Author.Rules.{rules}
use Rattle.sleeper.proofs.search.find_named_child.Goals as goal

pub returns : goal.returns
returns c = search (rules, find-seen)
