-- `image::header::view_at` meets its contract.
use Rattle.image.specs.Header.{view_of}
use Rattle.image.proofs.header.view_at.Goals as goal

pub returns : goal.returns
unfolding view_of
returns c = cc
