-- `records::assignment` meets its contract.
use Rattle.records.proofs.Tests.{test_rules}
use Rattle.records.specs.Shown.{assignment_rule}
use Rattle.records.proofs.assignment.Goals as goal

pub returns-then-not-good_within : goal.returns-then-not-good_within
unfolding assignment_rule
returns-then-not-good_within c = search test_rules depth 12

pub returns : goal.returns
unfolding assignment_rule
returns c = search test_rules depth 12
