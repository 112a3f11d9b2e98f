-- `records::choice` meets its contract.
use Rattle.records.proofs.Tests.{test_rules}
use Rattle.records.specs.Shown.{choice_rule}
use Rattle.records.proofs.choice.Goals as goal

pub returns-then-not-good_optional : goal.returns-then-not-good_optional
unfolding choice_rule
returns-then-not-good_optional c = search test_rules depth 12

pub returns-then-not-is_container : goal.returns-then-not-is_container
unfolding choice_rule
returns-then-not-is_container c = search test_rules depth 12

pub returns : goal.returns
unfolding choice_rule
returns c = search test_rules depth 12
