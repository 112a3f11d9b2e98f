-- `replay::compare::nothing` meets its contract.
use mathlib.Core.Path.{refl}
use Rattle.replay.proofs.Comparing.{number-alone}
use Rattle.replay.proofs.compare.nothing.Goals as goal

pub returns : goal.returns
returns c = number-alone _ _ _ c.get.ensures _ refl
