-- Both ways give the order.
use Rattle.texts.proofs.Blocks.{alike-none}
use Rattle.texts.proofs.compare.Goals as goal

pub compare_bytes-requires : goal.compare_bytes-requires
compare_bytes-requires c = alike-none _ _
