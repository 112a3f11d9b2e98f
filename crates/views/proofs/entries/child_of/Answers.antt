-- `views::entries::child_of` meets its contract.
use Rattle.views.proofs.Reading.{child-past, child-read}
use Rattle.views.proofs.entries.child_of.Goals as goal

pub returns-then-children-k : goal.returns-then-children-k
returns-then-children-k c = child-past _ _ _ c.section_part-children.ensures _ c.if-children-k.true

pub returns : goal.returns
returns c = child-read _ _ _ c.section_part-children.ensures _ c.if-children-k.false _ c.part_word.ensures
