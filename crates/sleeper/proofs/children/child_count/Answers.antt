-- `sleeper::children::child_count` meets its contract.
use Rattle.sleeper.proofs.Reading.{child-count-seen}
use borrow.Author.Rules.{rules}
use Rattle.sleeper.proofs.children.child_count.Goals as goal

pub returns : goal.returns
returns c = search (rules, child-count-seen)
