-- `records::divert` meets its contract.
use Rattle.records.proofs.Tests.{test_rules}
use Rattle.records.specs.Shown.{divert_rule}
use Rattle.records.proofs.divert.Goals as goal

pub returns-then-not-good_optional : goal.returns-then-not-good_optional
unfolding divert_rule
returns-then-not-good_optional c = search test_rules depth 12

pub returns-then-not-is_optional_node : goal.returns-then-not-is_optional_node
unfolding divert_rule
returns-then-not-is_optional_node c = search test_rules depth 12

pub returns-then-not-good_optional-2 : goal.returns-then-not-good_optional-2
unfolding divert_rule
returns-then-not-good_optional-2 c = search test_rules depth 12

pub returns : goal.returns
unfolding divert_rule
returns c = search test_rules depth 12
