-- `answers::node::value_alone` meets its contract.
use Rattle.answers.proofs.node.value_alone.Goals as goal

pub returns : goal.returns
returns c = cc
