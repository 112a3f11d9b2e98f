-- `views::lists::definition` meets its contract.
use Rattle.views.proofs.Answers.{definition-missing, definition-shown, definition-hidden}
use mathlib.Core.Path.{sym, ◌∙◌}
use Rattle.image.proofs.Views.{strings_by}
use Rattle.views.proofs.lists.definition.Goals as goal

pub returns-in_err-definition : goal.returns-in_err-definition
returns-in_err-definition c = c.from_residual.ensures ∙ definition-missing _ _ (strings_by _ _ ∙ sym c.section_part-strings.ensures) _ _ c.definition_of.ensures c.in_err-definition.was

pub returns-then-is_shown : goal.returns-then-is_shown
returns-then-is_shown c = definition-shown _ _ (strings_by _ _ ∙ sym c.section_part-strings.ensures) _ _ c.definition_of.ensures _ c.in_ok-definition.was _ c.is_shown.ensures c.if-is_shown.true

pub returns-else-is_shown : goal.returns-else-is_shown
returns-else-is_shown c = definition-hidden _ _ (strings_by _ _ ∙ sym c.section_part-strings.ensures) _ _ c.definition_of.ensures _ c.in_ok-definition.was _ c.is_shown.ensures c.if-is_shown.false
