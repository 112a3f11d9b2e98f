-- `load::needed::load_words` meets its contract.
use mathlib.Core.Path.{ap}
use Rattle.image.specs.Refusals.{numbered}
use Rattle.load.proofs.WorkWords.{none_to_load, some_to_load}
use Rattle.load.proofs.needed.load_words.Goals as goal

pub returns-in-Err : goal.returns-in-Err
returns-in-Err c = none_to_load _ _ c.new.ensures _ (ap numbered c.in-Err.is)

pub returns-in-Ok : goal.returns-in-Ok
returns-in-Ok c = some_to_load _ _ c.new.ensures _ (ap numbered c.in-Ok.is)
