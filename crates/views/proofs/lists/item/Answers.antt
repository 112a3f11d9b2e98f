-- `views::lists::item` meets its contract.
use Rattle.views.proofs.Answers.{item-missing, item-shown, item-hidden}
use mathlib.Core.Path.{sym, ◌∙◌}
use Rattle.image.proofs.Views.{strings_by}
use borrow.Author.Rules.{rules}
use Rattle.views.proofs.lists.item.Goals as goal

pub returns-in_err-entry : goal.returns-in_err-entry
returns-in_err-entry c = c.from_residual.ensures ∙ item-missing _ _ (strings_by _ _ ∙ sym c.section_part-strings.ensures) _ _ c.item_of.ensures c.in_err-entry.was

pub returns-then-is_shown : goal.returns-then-is_shown
returns-then-is_shown c = search (rules, item-shown _ _ (strings_by _ _ ∙ sym c.section_part-strings.ensures) _ _ c.item_of.ensures _ c.in_ok-entry.was _ c.is_shown.ensures c.if-is_shown.true)

pub returns-else-is_shown : goal.returns-else-is_shown
returns-else-is_shown c = item-hidden _ _ (strings_by _ _ ∙ sym c.section_part-strings.ensures) _ _ c.item_of.ensures _ c.in_ok-entry.was _ c.is_shown.ensures c.if-is_shown.false
