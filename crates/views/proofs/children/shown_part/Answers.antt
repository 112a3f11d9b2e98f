-- `views::children::shown_part` meets its contract.
use Rattle.views.proofs.Answers.{part-shown, part-hidden}
use Rattle.views.proofs.children.shown_part.Goals as goal

pub returns-then-is_shown : goal.returns-then-is_shown
returns-then-is_shown c = part-shown _ _ _ _ c.is_shown.ensures c.if-is_shown.true _ c.text_part.ensures

pub returns-else-is_shown : goal.returns-else-is_shown
returns-else-is_shown c = part-hidden _ _ _ _ c.is_shown.ensures c.if-is_shown.false
