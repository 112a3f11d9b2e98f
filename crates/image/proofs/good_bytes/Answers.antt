-- `image::good_bytes` meets its contract.
use Rattle.image.specs.Sections.{good_bytes}
use Rattle.image.proofs.good_bytes.Goals as goal

pub returns : goal.returns
unfolding good_bytes
returns c = c.valid.ensures
