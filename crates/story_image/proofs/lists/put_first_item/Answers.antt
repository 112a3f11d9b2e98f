-- `story_image::lists::put_first_item` meets its contract.
use Rattle.story_image.proofs.ListValues.{first-missing, first-none, first_found}
use Rattle.answers.proofs.AnswerSlices.{unanswered, answered_as}
use Rattle.story_image.proofs.lists.put_first_item.Goals as goal

pub returns-in-None : goal.returns-in-None
returns-in-None c = unanswered _ _ (first-missing _ _ _ c.definition.ensures c.in-None.is)

pub returns-in-None-definition_of : goal.returns-in-None-definition_of
returns-in-None-definition_of c = unanswered _ _ (first-none _ _ _ c.definition.ensures _ c.definition_of.ensures c.in-None-definition_of.is)

pub returns-in-Some-definition_of : goal.returns-in-Some-definition_of
returns-in-Some-definition_of c =
    let first = first_found _ _ _ c.definition.ensures _ c.definition_of.ensures _ _ c.in-Some.is c.in-Some-definition_of.is in
    answered_as _ _ _ _ _ first c.put_answer.ensures
