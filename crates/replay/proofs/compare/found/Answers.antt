-- `replay::compare::found` meets its contract.
use Rattle.replay.proofs.Comparing.{other-number, words-then}
use Rattle.replay.proofs.compare.found.Goals as goal

pub returns-then-get-ne0 : goal.returns-then-get-ne0
returns-then-get-ne0 c = other-number _ _ _ c.get.ensures _ _ c.if-get-ne0.true

pub returns : goal.returns
returns c =
    words-then _ _ _ c.get.ensures _ _ _ _ c.if-get-ne0.false c.section_part-part.ensures c.same_words.ensures
