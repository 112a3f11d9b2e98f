-- `image::order::definition_rises` meets its contract.
use mathlib.Core.Path.{◌∙◌}
use Rattle.words.specs.Words.{words_of}
use Rattle.image.proofs.RisingTexts.{definition-rises}
use Rattle.image.proofs.order.definition_rises.Goals as goal

pub returns : goal.returns
returns c =
    let at = c.args in
    c.texts_rise.ensures
    ∙ definition-rises (words_of at.definitions.now) at.strings.now at.d _ _ c.if-d-eq0.false c.definition_at-last.ensures c.definition_at-definition.ensures
