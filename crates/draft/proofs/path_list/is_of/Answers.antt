-- `draft::path_list::is_of` meets its contract.
use Rattle.draft.proofs.PathLists.{of_read, of_past}
use Rattle.draft.proofs.path_list.is_of.Goals as goal

pub returns-then-k-path_count : goal.returns-then-k-path_count
returns-then-k-path_count c = of_read _ _ _ _ c.path_count.ensures c.if-k-path_count.true _ c.origin_at.ensures

pub returns-else-k-path_count : goal.returns-else-k-path_count
returns-else-k-path_count c = of_past c.args.entries.now _ c.args.i _ c.path_count.ensures c.if-k-path_count.false
