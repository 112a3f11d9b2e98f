-- `views::entries::definition_of` meets its contract.
use Rattle.views.proofs.Reading.{definition-past, definition-read}
use Rattle.views.proofs.entries.definition_of.Goals as goal

pub returns-then-definitions-d : goal.returns-then-definitions-d
returns-then-definitions-d c = definition-past _ _ _ c.section_part-definitions.ensures _ c.if-definitions-d.true

pub returns : goal.returns
returns c = definition-read _ _ _ c.section_part-definitions.ensures _ c.if-definitions-d.false _ c.definition_at.ensures
