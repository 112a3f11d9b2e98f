-- `story_image::lists::story_image_list_entry` meets its contract.
use mathlib.Core.Path.{ap}
use Rattle.answers.specs.AnswerWords.{entry_answer}
use Rattle.answers.proofs.AnswerSlices.{answered_as}
use Rattle.story_image.proofs.lists.story_image_list_entry.Goals as goal

pub returns : goal.returns
returns c = answered_as _ _ _ _ _ (ap entry_answer c.list_entry.ensures) c.put_entry.ensures
