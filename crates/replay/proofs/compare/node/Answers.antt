-- `replay::compare::node` meets its contract.
use Rattle.replay.proofs.Comparing.{node-found, node-none}
use Rattle.replay.proofs.compare.node.Goals as goal

pub returns-in-Some : goal.returns-in-Some
returns-in-Some c = node-found _ _ _ _ _ c.in-Some.is c.found.ensures

pub returns-in-None : goal.returns-in-None
returns-in-None c = node-none _ _ _ _ c.in-None.is c.nothing.ensures
