-- `views::children::named_entry` meets its contract.
use Rattle.views.proofs.Answers.{entry-missing, entry-shown, entry-hidden}
use mathlib.Core.Path.{sym, ◌∙◌}
use Rattle.image.proofs.Views.{strings_by}
use Rattle.views.proofs.children.named_entry.Goals as goal

pub returns-in_err-entry : goal.returns-in_err-entry
returns-in_err-entry c = c.from_residual.ensures ∙ entry-missing _ _ (strings_by _ _ ∙ sym c.section_part-strings.ensures) _ _ c.named_of.ensures c.in_err-entry.was

pub returns-then-is_shown : goal.returns-then-is_shown
returns-then-is_shown c = entry-shown _ _ (strings_by _ _ ∙ sym c.section_part-strings.ensures) _ _ c.named_of.ensures _ c.in_ok-entry.was _ c.is_shown.ensures c.if-is_shown.true

pub returns-else-is_shown : goal.returns-else-is_shown
returns-else-is_shown c = entry-hidden _ _ (strings_by _ _ ∙ sym c.section_part-strings.ensures) _ _ c.named_of.ensures _ c.in_ok-entry.was _ c.is_shown.ensures c.if-is_shown.false
