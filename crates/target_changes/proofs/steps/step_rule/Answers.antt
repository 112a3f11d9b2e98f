-- `target_changes::steps::step_rule` meets its contract.
use Rattle.target_changes.proofs.WordSteps.{step_same, step_low, step_goes, step-high}
use Rattle.target_changes.proofs.steps.step_rule.Goals as goal

pub returns-then-old-new : goal.returns-then-old-new
returns-then-old-new c = step_same _ _ _ c.if-old-new.true

pub returns-then-not-can_fall : goal.returns-then-not-can_fall
returns-then-not-can_fall c = step_low _ _ _ c.if-old-new.false _ c.can_fall.ensures c.if-not-can_fall.true-raw

pub returns-then-can_rise : goal.returns-then-can_rise
returns-then-can_rise c = step_goes _ _ _ c.if-old-new.false _ c.can_fall.ensures c.if-not-can_fall.false-raw _ c.can_rise.ensures c.if-can_rise.true

pub returns-else-can_rise : goal.returns-else-can_rise
returns-else-can_rise c = step-high _ _ _ c.if-old-new.false _ c.can_fall.ensures c.if-not-can_fall.false-raw _ c.can_rise.ensures c.if-can_rise.false
