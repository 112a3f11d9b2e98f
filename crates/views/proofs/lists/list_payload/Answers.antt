-- `views::lists::list_payload` meets its contract.
use Rattle.views.proofs.Answers.{payload_of}
use Rattle.views.proofs.lists.list_payload.Goals as goal

pub returns : goal.returns
returns c = payload_of _ _ _ _ _ c.section_part.ensures c.text_part.ensures
