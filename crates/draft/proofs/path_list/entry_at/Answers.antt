-- `draft::path_list::entry_at` meets its contract.
use mathlib.Core.Path.{refl}
use Rattle.draft.proofs.PathLists.{entry-words}
use Rattle.draft.proofs.path_list.entry_at.Goals as goal

pub returns : goal.returns
returns c = entry-words _ _ _ refl
