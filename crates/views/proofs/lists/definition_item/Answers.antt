-- `views::lists::definition_item` meets its contract.
use mathlib.Core.Path.{◌∙◌}
use Rattle.views.proofs.Answers.{items-missing, items-found, items-past}
use Rattle.views.proofs.lists.definition_item.Goals as goal

pub returns-in_err-definition : goal.returns-in_err-definition
returns-in_err-definition c = c.from_residual.ensures ∙ items-missing _ _ _ _ c.definition_of.ensures c.in_err-definition.was

pub returns-then-j-definition : goal.returns-then-j-definition
returns-then-j-definition c = items-found _ _ _ _ c.definition_of.ensures _ c.in_ok-definition.was c.if-j-definition.true _ c.item.ensures

pub returns-else-j-definition : goal.returns-else-j-definition
returns-else-j-definition c = items-past _ _ _ _ c.definition_of.ensures _ c.in_ok-definition.was c.if-j-definition.false
