-- `sleeper::children::child_at` meets its contract.
use Rattle.sleeper.proofs.Reading.{child-seen}
use borrow.Author.Rules.{rules}
use Rattle.sleeper.proofs.children.child_at.Goals as goal

pub returns : goal.returns
returns c = search (rules, child-seen)
