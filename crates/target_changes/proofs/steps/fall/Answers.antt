-- `target_changes::steps::fall` meets its contract.
use native.Mathlib.Omega.{arith}
use Rattle.target_changes.proofs.WordSteps.{fall_none, fall_one}
use Rattle.target_changes.proofs.steps.fall.Goals as goal

pub returns-then-n-eq-NONE : goal.returns-then-n-eq-NONE
returns-then-n-eq-NONE c = fall_none _ _ c.if-n-eq-NONE.true

pub bounds-summary-at : goal.bounds-summary-at
bounds-summary-at c = omega (arith, c.requires.there c.if-n-eq-NONE.false, c.requires.can c.if-n-eq-NONE.false)

pub overflow_sub-summary : goal.overflow_sub-summary
overflow_sub-summary c = omega (arith, c.requires.there c.if-n-eq-NONE.false, c.requires.can c.if-n-eq-NONE.false)

pub bounds-summary-at-2 : goal.bounds-summary-at-2
bounds-summary-at-2 c = omega (arith, c.requires.there c.if-n-eq-NONE.false, c.requires.can c.if-n-eq-NONE.false)

pub returns : goal.returns
returns c = fall_one _ _ c.if-n-eq-NONE.false
