-- `replay::loads::number_with` meets its contract.
use mathlib.Core.Path.{ap, ◌∙◌}
use Rattle.image.specs.Refusals.{numbered}
use Rattle.replay.proofs.Comparing.{view-number, refused-number}
use Rattle.replay.proofs.loads.number_with.Goals as goal

pub returns-in-Ok : goal.returns-in-Ok
returns-in-Ok c = view-number _ _ _ _ c.load.ensures.answer (ap numbered c.in-Ok.is)

pub returns-in-Err : goal.returns-in-Err
returns-in-Err c = c.number.ensures ∙ refused-number _ _ _ _ c.load.ensures.answer (ap numbered c.in-Err.is)
