-- `image::nodes_part` meets its contract.
use Rattle.image.proofs.nodes_part.Goals as goal

pub returns : goal.returns
returns c = cc
