-- `image::order::entry_rises` meets its contract.
use mathlib.Core.Path.{◌∙◌, sym}
use Rattle.words.specs.Words.{words_of}
use Rattle.image.proofs.RisingTexts.{entry-rises}
use Rattle.image.proofs.RisingTexts.{rising-first}
use Rattle.image.proofs.order.entry_rises.Goals as goal

pub returns-then-place-eq0 : goal.returns-then-place-eq0
returns-then-place-eq0 c = sym (rising-first _ _ c.if-place-eq0.true)

pub returns : goal.returns
returns c =
    let at = c.args in
    c.texts_rise.ensures
    ∙ entry-rises (words_of at.entries.now) at.strings.now at.first at.place _ _ c.if-place-eq0.false c.text_entry-last.ensures c.text_entry-entry.ensures
