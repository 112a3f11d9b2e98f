-- `sleeper::node_words::text_given` meets its contract.
use borrow.Author.Tests.{eq-eqb, ne_eqb}
use borrow.Author.Rules.{rules}
use Rattle.sleeper.proofs.node_words.text_given.Goals as goal

pub returns-then-tag-eq-LIST_VALUE : goal.returns-then-tag-eq-LIST_VALUE
returns-then-tag-eq-LIST_VALUE c = search (rules, eq-eqb)

pub returns-else-tag-eq-LIST_VALUE : goal.returns-else-tag-eq-LIST_VALUE
returns-else-tag-eq-LIST_VALUE c = search (rules, eq-eqb, ne_eqb)
