-- `draft::tables::follower_right` meets its contract.
use Rattle.draft.proofs.PathTables.{choice-right, divert-wrong, divert-right, reference-wrong, reference-right, target_right}
use Rattle.draft.proofs.tables.follower_right.Goals as goal

pub returns-then-not-good_optional : goal.returns-then-not-good_optional
returns-then-not-good_optional c = divert-wrong _ _ c.in-4.is _ c.good_optional-in-4.ensures c.if-not-good_optional.true-raw

pub returns-then-not-good_within : goal.returns-then-not-good_within
returns-then-not-good_within c = reference-wrong _ _ c.in-17.is _ c.good_within.ensures c.if-not-good_within.true-raw

pub returns-in-2 : goal.returns-in-2
returns-in-2 c = choice-right _ _ c.in-2.is _ c.good_optional.ensures

pub returns-else-not-good_optional : goal.returns-else-not-good_optional
returns-else-not-good_optional c = divert-right _ _ c.in-4.is _ c.good_optional-in-4.ensures c.if-not-good_optional.false-raw

pub returns-else-not-good_within : goal.returns-else-not-good_within
returns-else-not-good_within c = reference-right _ _ c.in-17.is _ c.good_within.ensures c.if-not-good_within.false-raw _ c.good_optional-in-17.ensures

pub returns-in_default : goal.returns-in_default
returns-in_default c = target_right _ _ c.in_default.in_default-own.rest.0.0.1 c.in_default.in_default-own.rest.0.1 c.in_default.in_default-own.rest.1 _ c.good_within-in_default.ensures
