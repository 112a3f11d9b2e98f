-- `replay::drafts::same` meets its contract.
use mathlib.Core.Path.{ap}
use Rattle.writer.specs.Encoded.{encoded_in}
use Rattle.replay.proofs.Comparing.{number-unlike, image_compared, short_compared, refusal_compared}
use Rattle.replay.proofs.drafts.same.Goals as goal

pub returns-then-number-ne0 : goal.returns-then-number-ne0
returns-then-number-ne0 c = number-unlike _ _ _ _ _ (ap encoded_in c.in-Ok.is) c.if-number-ne0.true

pub returns-else-number-ne0 : goal.returns-else-number-ne0
returns-else-number-ne0 c = image_compared _ _ _ _ _ _ _ (ap encoded_in c.in-Ok.is) c.if-number-ne0.false c.first.ensures c.equal.ensures

pub returns-in-Err-Short : goal.returns-in-Err-Short
returns-in-Err-Short c =
    let error = c.in-Err-Short in
    short_compared _ _ _ _ error.field-0 error.field-0-0 _ error.is (rw error.is at error.field-0-is) c.refused_alike.ensures

pub returns-in-Err-Refused : goal.returns-in-Err-Refused
returns-in-Err-Refused c =
    let error = c.in-Err-Refused in
    refusal_compared _ _ _ _ error.field-0 error.refusal _ _ error.is (rw error.is at error.field-0-is) c.number.ensures c.refused_alike-in-Err-Refused.ensures
