-- `draft::path_list::first_hint` meets its contract.
use Rattle.draft.proofs.PathLists.{hint_starts}
use Rattle.draft.proofs.path_list.first_hint.Goals as goal

pub returns : goal.returns
returns c = hint_starts _ _ c.paths_rise.ensures
