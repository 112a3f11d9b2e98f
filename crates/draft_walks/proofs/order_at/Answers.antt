-- `draft_walks::order_at` meets its contract.
use Rattle.lookups.proofs.Lookups.{entry-order}
use Rattle.draft_walks.proofs.order_at.Goals as goal

pub returns : goal.returns
returns c = entry-order _ _ _ _ _ c.entry_at-entry.ensures _ c.text_part.ensures _ c.compare.ensures
