-- `image::section_sizes` meets its contract.
use Rattle.image.specs.Header.{sizes}
use Rattle.image.proofs.section_sizes.Goals as goal

pub returns : goal.returns
unfolding sizes
returns c = cc
