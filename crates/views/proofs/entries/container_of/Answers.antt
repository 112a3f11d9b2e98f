-- `views::entries::container_of` meets its contract.
use mathlib.Core.Path.{◌∙◌}
use Rattle.views.proofs.Reading.{none_contains, one_contains, other_contains}
use Rattle.views.proofs.entries.container_of.Goals as goal

pub returns-in_err-node : goal.returns-in_err-node
returns-in_err-node c = c.from_residual.ensures ∙ none_contains _ _ _ c.node_of.ensures c.in_err-node.was

pub returns-then-node-eq-CONTAINER : goal.returns-then-node-eq-CONTAINER
returns-then-node-eq-CONTAINER c = one_contains _ _ _ c.node_of.ensures _ c.in_ok-node.was c.if-node-eq-CONTAINER.true

pub returns-else-node-eq-CONTAINER : goal.returns-else-node-eq-CONTAINER
returns-else-node-eq-CONTAINER c = other_contains _ _ _ c.node_of.ensures _ c.in_ok-node.was c.if-node-eq-CONTAINER.false
