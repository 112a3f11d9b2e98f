-- `write_plan::sharing::share_one` meets its contract.
use mathlib.Core.Path.{sym, ◌∙◌}
use Rattle.texts.proofs.Text.{same-equal}
use Rattle.write_plan.proofs.SharedTexts.{same_none, same_put}
use Rattle.write_plan.proofs.sharing.share_one.Goals as goal

pub returns-then-w-at : goal.returns-then-w-at
returns-then-w-at c = same_none _ _ _ _

pub returns-then-here-before : goal.returns-then-here-before
returns-then-here-before c = same_none _ _ _ _

pub returns-then-equal : goal.returns-then-equal
returns-then-equal c =
    let to = c.args in
    let asked = c.requires in
    let alike = same-equal _ _ (sym c.equal.ensures ∙ c.if-equal.true) in
    same_put to.strings.now to.layout.at to.layout.texts to.w.now to.i asked.1 asked.2 _
    (sym c.text_part.ensures ∙ alike ∙ c.text_part-2.ensures)

pub returns-else-equal : goal.returns-else-equal
returns-else-equal c = same_none _ _ _ _
