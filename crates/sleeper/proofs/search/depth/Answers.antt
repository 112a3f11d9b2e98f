-- `sleeper::search::depth` meets its contract.
use Rattle.sleeper.proofs.Reading.{depth-seen}
use borrow.Author.Rules.{rules}
use Rattle.sleeper.proofs.search.depth.Goals as goal

pub returns : goal.returns
returns c = search (rules, depth-seen)
