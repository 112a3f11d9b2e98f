-- `views::lists::definition_count` meets its contract.
use mathlib.Core.Path.{sym}
use Rattle.views.proofs.Reading.{definitions-count}
use Rattle.views.proofs.lists.definition_count.Goals as goal

pub returns : goal.returns
returns c = sym (definitions-count _ _ _ c.section_part.ensures 0)
