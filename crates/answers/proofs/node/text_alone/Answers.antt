-- `answers::node::text_alone` meets its contract.
use Rattle.answers.proofs.node.text_alone.Goals as goal

pub returns : goal.returns
returns c = cc
