-- `draft_walks::child_at` meets its contract.
use mathlib.Core.Path.{◌∙◌}
use Rattle.views.proofs.Answers.{child-missing, child-found, child-past}
use Rattle.draft_walks.proofs.child_at.Goals as goal

pub returns-in_err-node : goal.returns-in_err-node
returns-in_err-node c = λ named strings. c.from_residual.ensures ∙ child-missing _ _ _ (c.container_of.ensures _ named strings) _ c.in_err-node.was

pub returns-then-j-node : goal.returns-then-j-node
returns-then-j-node c = λ named strings. child-found _ _ _ (c.container_of.ensures _ named strings) _ c.in_ok-node.was _ c.if-j-node.true _ (c.child_of.ensures _ _ named strings)

pub returns-else-j-node : goal.returns-else-j-node
returns-else-j-node c = λ named strings. child-past _ _ _ (c.container_of.ensures _ named strings) _ c.in_ok-node.was _ c.if-j-node.false
