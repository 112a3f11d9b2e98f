-- `write_image::places_of` meets its contract.
use mathlib.Core.Path.{refl}
use Rattle.write_image.proofs.places_of.Goals as goal

pub returns : goal.returns
returns c = rw c.nodes_length.ensures refl
