-- `views::children::text_answer` meets its contract.
use Rattle.views.proofs.Answers.{text-shown, text-hidden}
use mathlib.Core.Path.{sym, ◌∙◌}
use Rattle.image.proofs.Views.{strings_by}
use Rattle.views.proofs.children.text_answer.Goals as goal

pub returns-then-is_shown : goal.returns-then-is_shown
returns-then-is_shown c = text-shown _ _ (strings_by _ _ ∙ sym c.section_part-strings.ensures) _ _ c.is_shown.ensures c.if-is_shown.true

pub returns-else-is_shown : goal.returns-else-is_shown
returns-else-is_shown c = text-hidden _ _ (strings_by _ _ ∙ sym c.section_part-strings.ensures) _ _ c.is_shown.ensures c.if-is_shown.false
