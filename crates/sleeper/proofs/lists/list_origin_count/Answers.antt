-- `sleeper::lists::list_origin_count` meets its contract.
use Rattle.sleeper.proofs.Reading.{list-origins-none, list-origins-there}
use borrow.Author.Rules.{rules}
use Rattle.sleeper.proofs.lists.list_origin_count.Goals as goal

pub returns-then-payload-lt-HEAD_BYTES : goal.returns-then-payload-lt-HEAD_BYTES
returns-then-payload-lt-HEAD_BYTES c = search (rules, list-origins-none)

pub returns : goal.returns
returns c = search (rules, list-origins-there)
