-- `utf8::start_right` meets its contract.
use Rattle.utf8.specs.Places.{starts}
use Rattle.utf8.proofs.Blocks.{no_fault}
use Rattle.utf8.proofs.start_right.Goals as goal

pub returns : goal.returns
unfolding starts
returns c = no_fault _ _ _ _ _ _ c.fault.ensures c.fault-2.ensures c.fault-3.ensures
