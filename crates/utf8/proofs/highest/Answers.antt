-- `utf8::highest` meets its contract.
use Rattle.laws.proofs.Cases.{cases}
use Rattle.utf8.specs.Seconds.{highest_after}
use Rattle.utf8.proofs.highest.Goals as goal

pub returns-then-b-eq237 : goal.returns-then-b-eq237
unfolding highest_after
returns-then-b-eq237 c = search cases depth 12

pub returns-then-b-eq244 : goal.returns-then-b-eq244
unfolding highest_after
returns-then-b-eq244 c = search cases depth 12

pub returns : goal.returns
unfolding highest_after
returns c = search cases depth 12
