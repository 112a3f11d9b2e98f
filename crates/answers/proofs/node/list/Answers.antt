-- `answers::node::list` meets its contract.
use Rattle.answers.proofs.Records.{list-found, list-refused}
use Rattle.answers.proofs.node.list.Goals as goal

pub returns-then-start-len : goal.returns-then-start-len
returns-then-start-len c = list-found _ _ _ _ c.if-start-len.true c.text_alone.ensures

pub returns-else-start-len : goal.returns-else-start-len
returns-else-start-len c = list-refused _ _ _ c.if-start-len.false
