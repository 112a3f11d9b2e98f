-- `target_changes::steps::rise` meets its contract.
use native.Mathlib.Omega.{arith}
use Rattle.target_changes.proofs.WordSteps.{rise-none, rise_one}
use Rattle.target_changes.proofs.steps.rise.Goals as goal

pub returns-then-n-eq-NONE : goal.returns-then-n-eq-NONE
returns-then-n-eq-NONE c = rise-none _ _ c.if-n-eq-NONE.true

pub bounds-summary-at : goal.bounds-summary-at
bounds-summary-at c = omega (arith, c.requires.there c.if-n-eq-NONE.false, c.requires.can c.if-n-eq-NONE.false)

pub overflow_add-summary : goal.overflow_add-summary
overflow_add-summary c = omega (arith, c.requires.there c.if-n-eq-NONE.false, c.requires.can c.if-n-eq-NONE.false)

pub bounds-summary-at-2 : goal.bounds-summary-at-2
bounds-summary-at-2 c = omega (arith, c.requires.there c.if-n-eq-NONE.false, c.requires.can c.if-n-eq-NONE.false)

pub returns : goal.returns
returns c = rise_one _ _ c.if-n-eq-NONE.false
