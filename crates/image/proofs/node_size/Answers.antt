-- `image::node_size` meets its contract.
use mathlib.Core.Path.{refl}
use Rattle.image.proofs.Widths.{only-common}
use Rattle.image.proofs.node_size.Goals as goal

pub returns : goal.returns
returns c = rw (only-common c.args.version) refl
