-- `views::children::named_child_count` meets its contract.
use mathlib.Core.Path.{◌∙◌}
use Rattle.views.proofs.Answers.{named-count-missing, named-count-found}
use Rattle.views.proofs.children.named_child_count.Goals as goal

pub returns-in_err-node : goal.returns-in_err-node
returns-in_err-node c = c.from_residual.ensures ∙ named-count-missing _ _ _ c.container_of.ensures c.in_err-node.was

pub returns : goal.returns
returns c = named-count-found _ _ _ c.container_of.ensures _ c.in_ok-node.was
