-- `answers::lists::place_of` meets its contract.
use borrow.Author.Rules.{rules}
use Rattle.answers.proofs.ListPlaces.{no_list, outside-payload, inside-payload}
use Rattle.answers.proofs.lists.place_of.Goals as goal

pub returns-then-node-ne-LIST_VALUE : goal.returns-then-node-ne-LIST_VALUE
returns-then-node-ne-LIST_VALUE c = search (rules, no_list)

pub returns-then-payload-node : goal.returns-then-payload-node
returns-then-payload-node c = search (rules, outside-payload)

pub returns : goal.returns
returns c = search (rules, inside-payload)
