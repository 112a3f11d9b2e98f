-- `views::children::child_count` meets its contract.
use mathlib.Core.Path.{◌∙◌}
use Rattle.views.proofs.Answers.{child-count-missing, child-count-found}
use Rattle.views.proofs.children.child_count.Goals as goal

pub returns-in_err-node : goal.returns-in_err-node
returns-in_err-node c = c.from_residual.ensures ∙ child-count-missing _ _ _ c.container_of.ensures c.in_err-node.was

pub returns : goal.returns
returns c = child-count-found _ _ _ c.container_of.ensures _ c.in_ok-node.was
