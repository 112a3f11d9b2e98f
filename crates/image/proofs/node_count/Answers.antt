-- `image::node_count` meets its contract.
use Rattle.image.proofs.Widths.{count-bytes}
use Rattle.image.proofs.node_count.Goals as goal

pub returns : goal.returns
returns c = count-bytes _ _
