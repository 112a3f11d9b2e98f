-- `walks::parent_of` meets its contract.
use mathlib.Core.Path.{◌∙◌}
use Rattle.walks.proofs.Steps.{parent-missing, parent-none, parent-there}
use Rattle.walks.proofs.parent_of.Goals as goal

pub returns-in_err-node : goal.returns-in_err-node
returns-in_err-node c = c.from_residual.ensures ∙ parent-missing _ _ _ c.node_of.ensures c.in_err-node.was

pub returns-then-node : goal.returns-then-node
returns-then-node c = parent-none _ _ _ c.node_of.ensures _ c.in_ok-node.was c.if-node.true

pub returns-else-node : goal.returns-else-node
returns-else-node c = parent-there _ _ _ c.node_of.ensures _ c.in_ok-node.was c.if-node.false
