-- `list_items::order_at` meets its contract.
use Rattle.lookups.proofs.Lookups.{entry-order}
use Rattle.list_items.proofs.order_at.Goals as goal

pub returns : goal.returns
returns c = entry-order _ _ _ _ _ c.text_entry-entry.ensures _ c.text_part.ensures _ c.compare_front.ensures
