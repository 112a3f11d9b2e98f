-- `views::entries::item_of` meets its contract.
use Rattle.views.proofs.Reading.{item-read}
use mathlib.Core.Path.{◌∙◌}
use Rattle.views.proofs.entries.item_of.Goals as goal

pub returns : goal.returns
returns c = rw c.section_part.ensures at c.entry_of.ensures ∙ item-read _ _ _
