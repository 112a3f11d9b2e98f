-- `target_changes::steps::step` meets its contract.
use mathlib.Core.Path.{◌∙◌}
use Rattle.target_changes.proofs.WordSteps.{steps-none, steps_two, falls, rises}
use Rattle.target_changes.proofs.steps.step.Goals as goal

pub returns-then-old-new : goal.returns-then-old-new
returns-then-old-new c = steps-none _ _ _ c.if-old-new.true

pub fall-requires : goal.fall-requires
fall-requires c = falls _ _ _ c.requires c.if-old-new.false

pub rise-requires : goal.rise-requires
rise-requires c = rises _ _ _ c.requires c.if-old-new.false _ c.fall.ensures

pub returns : goal.returns
returns c = rw (← c.fall.ensures) (c.rise.ensures) ∙ steps_two _ _ _ c.if-old-new.false
