-- `image::definition_at` meets its contract.
use Rattle.image.specs.Entries.{definition_of}
use Rattle.image.proofs.definition_at.Goals as goal

pub returns : goal.returns
unfolding definition_of
returns c = cc
