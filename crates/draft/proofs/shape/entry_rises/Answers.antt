-- `draft::shape::entry_rises` meets its contract.
use mathlib.Core.Path.{sym, ◌∙◌}
use Rattle.image.proofs.RisingTexts.{rising-first, entry-rises}
use Rattle.draft.proofs.shape.entry_rises.Goals as goal

pub returns-then-place-eq0 : goal.returns-then-place-eq0
returns-then-place-eq0 c = sym (rising-first _ _ c.if-place-eq0.true)

pub returns : goal.returns
returns c =
    let read = c in
    c.texts_rise.ensures ∙ entry-rises _ _ _ _ _ _ read.if-place-eq0.false read.entry_at-last.ensures read.entry_at-entry.ensures
