-- `draft_walks::parent_of` meets its contract.
use mathlib.Core.Path.{◌∙◌}
use Rattle.walks.proofs.Steps.{parent-missing, parent-none, parent-there}
use Rattle.draft_walks.proofs.parent_of.Goals as goal

pub returns-in_err-node : goal.returns-in_err-node
returns-in_err-node c = λ children named strings. c.from_residual.ensures ∙ parent-missing _ _ _ (c.node_of.ensures children named strings) c.in_err-node.was

pub returns-then-node : goal.returns-then-node
returns-then-node c = λ children named strings. parent-none _ _ _ (c.node_of.ensures children named strings) _ c.in_ok-node.was c.if-node.true

pub returns-else-node : goal.returns-else-node
returns-else-node c = λ children named strings. parent-there _ _ _ (c.node_of.ensures children named strings) _ c.in_ok-node.was c.if-node.false
