-- `draft::entry_counts` meets its contract.
use Rattle.draft.proofs.entry_counts.Goals as goal

pub returns : goal.returns
returns c = rw c.node_count.ensures
