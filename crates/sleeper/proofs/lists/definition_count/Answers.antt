-- `sleeper::lists::definition_count` meets its contract.
use Rattle.sleeper.proofs.Reading.{definition-count-seen}
use borrow.Author.Rules.{rules}
use Rattle.sleeper.proofs.lists.definition_count.Goals as goal

pub returns : goal.returns
returns c = search (rules, definition-count-seen)
