-- `story_image::lists::story_image_list_origin` meets its contract.
use mathlib.Core.Path.{ap}
use Rattle.answers.specs.AnswerWords.{place_answer}
use Rattle.answers.proofs.AnswerSlices.{answered_as}
use Rattle.story_image.proofs.lists.story_image_list_origin.Goals as goal

pub returns : goal.returns
returns c = answered_as _ _ _ _ _ (ap place_answer c.list_origin.ensures) c.put_place.ensures
