-- `utf8::lowest` meets its contract.
use Rattle.laws.proofs.Cases.{cases}
use Rattle.utf8.specs.Seconds.{lowest_after}
use Rattle.utf8.proofs.lowest.Goals as goal

pub returns-then-b-eq224 : goal.returns-then-b-eq224
unfolding lowest_after
returns-then-b-eq224 c = search cases depth 12

pub returns-then-b-eq240 : goal.returns-then-b-eq240
unfolding lowest_after
returns-then-b-eq240 c = search cases depth 12

pub returns : goal.returns
unfolding lowest_after
returns c = search cases depth 12
