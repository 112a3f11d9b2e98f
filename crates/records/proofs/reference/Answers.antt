-- `records::reference` meets its contract.
use Rattle.records.proofs.Tests.{test_rules}
use Rattle.records.specs.Shown.{reference_rule}
use Rattle.records.proofs.reference.Goals as goal

pub returns-then-not-good_within : goal.returns-then-not-good_within
unfolding reference_rule
returns-then-not-good_within c = search test_rules depth 12

pub returns-then-not-good_optional : goal.returns-then-not-good_optional
unfolding reference_rule
returns-then-not-good_optional c = search test_rules depth 12

pub returns-then-not-is_optional_container : goal.returns-then-not-is_optional_container
unfolding reference_rule
returns-then-not-is_optional_container c = search test_rules depth 12

pub returns : goal.returns
unfolding reference_rule
returns c = search test_rules depth 12
