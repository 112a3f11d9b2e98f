-- `sleeper::search::resolve_path` meets its contract.
use Rattle.sleeper.proofs.Reading.{walk-seen}
use borrow.Author.Rules.{rules}
use Rattle.sleeper.proofs.search.resolve_path.Goals as goal

pub returns : goal.returns
returns c = search (rules, walk-seen)
