-- `draft::tables::fields_right` meets its contract.
use mathlib.Core.Path.{ap, ◌∙◌}
use Rattle.image.proofs.Refused.{ok-passes}
use Rattle.laws.specs.Refusal.{passes}
use Rattle.draft.proofs.tables.fields_right.Goals as goal

pub returns-then-follow : goal.returns-then-follow
returns-then-follow c = rw c.if-follow.true c.follower_right.ensures

pub returns : goal.returns
returns c = rw c.if-follow.false (c.is_ok.ensures.value ∙ ok-passes _ ∙ ap passes c.own_rule.ensures)
