-- `views::children::child_at` meets its contract.
use mathlib.Core.Path.{◌∙◌}
use Rattle.views.proofs.Answers.{child-missing, child-found, child-past}
use Rattle.views.proofs.children.child_at.Goals as goal

pub returns-in_err-node : goal.returns-in_err-node
returns-in_err-node c = c.from_residual.ensures ∙ child-missing _ _ _ c.container_of.ensures _ c.in_err-node.was

pub returns-then-j-node : goal.returns-then-j-node
returns-then-j-node c = child-found _ _ _ c.container_of.ensures _ c.in_ok-node.was _ c.if-j-node.true _ c.child_of.ensures

pub returns-else-j-node : goal.returns-else-j-node
returns-else-j-node c = child-past _ _ _ c.container_of.ensures _ c.in_ok-node.was _ c.if-j-node.false
