-- `draft::path_list::origin_at` meets its contract.
use Rattle.draft.proofs.PathLists.{origin-word}
use Rattle.draft.proofs.path_list.origin_at.Goals as goal

pub returns : goal.returns
returns c = origin-word _ _
