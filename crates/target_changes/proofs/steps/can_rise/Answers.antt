-- `target_changes::steps::can_rise` meets its contract.
use mathlib.Core.Path.{refl}
use Rattle.target_changes.proofs.WordSteps.{or_yes, or_no}
use Rattle.target_changes.proofs.steps.can_rise.Goals as goal

pub returns-then-n-eq-NONE : goal.returns-then-n-eq-NONE
returns-then-n-eq-NONE c = or_yes _ _ c.if-n-eq-NONE.true

pub returns : goal.returns
returns c = or_no _ _ _ c.if-n-eq-NONE.false (rw c.word.ensures refl)
