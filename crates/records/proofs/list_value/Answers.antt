-- `records::list_value` meets its contract.
use Rattle.laws.proofs.Chains.{stop_unequal, go_equal}
use Rattle.records.specs.Shown.{list_rule}
use Rattle.records.proofs.list_value.Goals as goal

pub returns-then-start-sums : goal.returns-then-start-sums
unfolding list_rule
returns-then-start-sums c = search stop_unequal

pub returns : goal.returns
unfolding list_rule
returns c = search go_equal
