-- `views::children::named_child_at` meets its contract.
use mathlib.Core.Path.{◌∙◌}
use Rattle.views.proofs.Answers.{named-missing, named-found, named_past}
use Rattle.views.proofs.children.named_child_at.Goals as goal

pub returns-in_err-node : goal.returns-in_err-node
returns-in_err-node c = c.from_residual.ensures ∙ named-missing _ _ _ c.container_of.ensures _ c.in_err-node.was

pub returns-then-j-node : goal.returns-then-j-node
returns-then-j-node c = named-found _ _ _ c.container_of.ensures _ c.in_ok-node.was _ c.if-j-node.true _ c.named_entry.ensures

pub returns-else-j-node : goal.returns-else-j-node
returns-else-j-node c = named_past _ _ _ c.container_of.ensures _ c.in_ok-node.was _ c.if-j-node.false
