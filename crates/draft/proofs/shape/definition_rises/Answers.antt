-- `draft::shape::definition_rises` meets its contract.
use mathlib.Core.Path.{sym, ◌∙◌}
use Rattle.image.proofs.RisingTexts.{rising-first, definition-rises}
use Rattle.draft.proofs.shape.definition_rises.Goals as goal

pub returns-then-d-eq0 : goal.returns-then-d-eq0
returns-then-d-eq0 c = sym (rising-first _ _ c.if-d-eq0.true)

pub returns : goal.returns
returns c =
    let read = c in
    c.texts_rise.ensures ∙ definition-rises _ _ _ _ _ read.if-d-eq0.false read.definition_at-last.ensures read.definition_at-definition.ensures
