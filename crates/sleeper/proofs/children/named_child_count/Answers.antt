-- `sleeper::children::named_child_count` meets its contract.
use Rattle.sleeper.proofs.Reading.{named-count-seen}
use borrow.Author.Rules.{rules}
use Rattle.sleeper.proofs.children.named_child_count.Goals as goal

pub returns : goal.returns
returns c = search (rules, named-count-seen)
