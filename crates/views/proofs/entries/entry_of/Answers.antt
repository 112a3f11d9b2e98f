-- `views::entries::entry_of` meets its contract.
use Rattle.views.proofs.Reading.{entry_past, entry_read}
use Rattle.views.proofs.entries.entry_of.Goals as goal

pub returns-then-part-k : goal.returns-then-part-k
returns-then-part-k c = entry_past _ _ c.if-part-k.true

pub returns : goal.returns
returns c = entry_read _ _ c.if-part-k.false _ c.text_entry.ensures
