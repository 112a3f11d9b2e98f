-- `image::is_inside` meets its contract.
use Rattle.image.proofs.Tests.{none_inside, some-inside}
use Rattle.image.proofs.is_inside.Goals as goal

pub returns-then-n-eq-NONE : goal.returns-then-n-eq-NONE
returns-then-n-eq-NONE c = search none_inside

pub returns-else-n-eq-NONE : goal.returns-else-n-eq-NONE
returns-else-n-eq-NONE c = search some-inside
