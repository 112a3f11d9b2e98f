-- `sleeper::node_words::given` meets its contract.
use borrow.Author.Tests.{eq-eqb, ne_eqb}
use borrow.Author.Rules.{rules}
use Rattle.sleeper.proofs.node_words.given.Goals as goal

pub returns-then-offset-eq-NONE : goal.returns-then-offset-eq-NONE
returns-then-offset-eq-NONE c = search (rules, eq-eqb)

pub returns-else-offset-eq-NONE : goal.returns-else-offset-eq-NONE
returns-else-offset-eq-NONE c = search (rules, ne_eqb)
