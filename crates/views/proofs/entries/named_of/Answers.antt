-- `views::entries::named_of` meets its contract.
use Rattle.views.proofs.Reading.{named-read}
use mathlib.Core.Path.{◌∙◌}
use Rattle.views.proofs.entries.named_of.Goals as goal

pub returns : goal.returns
returns c = rw c.section_part.ensures at c.entry_of.ensures ∙ named-read _ _ _
