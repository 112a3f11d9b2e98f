-- `sleeper::lists::list_item_count` meets its contract.
use Rattle.sleeper.proofs.Reading.{list-items-none, list-items-there}
use borrow.Author.Rules.{rules}
use Rattle.sleeper.proofs.lists.list_item_count.Goals as goal

pub returns-then-payload-lt-HEAD_BYTES : goal.returns-then-payload-lt-HEAD_BYTES
returns-then-payload-lt-HEAD_BYTES c = search (rules, list-items-none)

pub returns : goal.returns
returns c = search (rules, list-items-there)
