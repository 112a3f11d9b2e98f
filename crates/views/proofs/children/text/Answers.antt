-- `views::children::text` meets its contract.
use Rattle.views.proofs.Answers.{text_of}
use Rattle.views.proofs.children.text.Goals as goal

pub returns : goal.returns
returns c = text_of _ _ _ _ _ c.section_part.ensures c.shown_part.ensures
