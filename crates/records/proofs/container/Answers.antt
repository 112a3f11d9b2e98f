-- `records::container` meets its contract.
use Rattle.records.proofs.Tests.{test_rules}
use Rattle.records.specs.Shown.{container_rule}
use Rattle.records.proofs.container.Goals as goal

pub returns-then-not-good_optional : goal.returns-then-not-good_optional
unfolding container_rule
returns-then-not-good_optional c = search test_rules depth 12

pub returns-then-not-is_next : goal.returns-then-not-is_next
unfolding container_rule
returns-then-not-is_next c = search test_rules depth 12

pub returns-then-not-is_next-2 : goal.returns-then-not-is_next-2
unfolding container_rule
returns-then-not-is_next-2 c = search test_rules depth 12

pub returns : goal.returns
unfolding container_rule
returns c = search test_rules depth 12
