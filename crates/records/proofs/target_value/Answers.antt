-- `records::target_value` meets its contract.
use Rattle.records.proofs.Tests.{test_rules}
use Rattle.records.specs.Shown.{target_rule}
use Rattle.records.proofs.target_value.Goals as goal

pub returns-then-not-good_within : goal.returns-then-not-good_within
unfolding target_rule
returns-then-not-good_within c = search test_rules depth 12

pub returns-then-not-is_inside : goal.returns-then-not-is_inside
unfolding target_rule
returns-then-not-is_inside c = search test_rules depth 12

pub returns : goal.returns
unfolding target_rule
returns c = search test_rules depth 12
