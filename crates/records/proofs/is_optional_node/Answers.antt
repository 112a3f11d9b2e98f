-- `records::is_optional_node` meets its contract.
use Rattle.records.proofs.Tests.{none-optional, some-optional}
use Rattle.records.proofs.is_optional_node.Goals as goal

pub returns-then-word-eq-NONE : goal.returns-then-word-eq-NONE
returns-then-word-eq-NONE c = none-optional _ _ c.if-word-eq-NONE.true

pub returns-else-word-eq-NONE : goal.returns-else-word-eq-NONE
returns-else-word-eq-NONE c = some-optional _ _ _ c.if-word-eq-NONE.false c.is_inside.ensures
