-- `sleeper::places::list_of` meets its contract.
use Rattle.sleeper.proofs.Reading.{list-none, list-there, list-other}
use borrow.Author.Rules.{rules}
use Rattle.sleeper.proofs.places.list_of.Goals as goal

pub returns-in-None : goal.returns-in-None
returns-in-None c = search (rules, list-none)

pub returns-then-node-eq-LIST_VALUE : goal.returns-then-node-eq-LIST_VALUE
returns-then-node-eq-LIST_VALUE c = search (rules, list-there)

pub returns-else-node-eq-LIST_VALUE : goal.returns-else-node-eq-LIST_VALUE
returns-else-node-eq-LIST_VALUE c = search (rules, list-other)
