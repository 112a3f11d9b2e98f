-- `draft::path_list::is_marked` meets its contract.
use mathlib.Core.Path.{refl}
use Rattle.draft.specs.PathWindows.{marked}
use Rattle.draft.proofs.path_list.is_marked.Goals as goal

pub returns : goal.returns
unfolding marked
returns c = refl
