-- `story_image::header_words::story_image_checksum` meets its contract.
use mathlib.Core.Path.{ap}
use Rattle.answers.specs.AnswerWords.{found_answer}
use Rattle.answers.proofs.AnswerSlices.{answered_as}
use Rattle.story_image.proofs.header_words.story_image_checksum.Goals as goal

pub returns : goal.returns
returns c = answered_as _ _ _ _ _ (ap found_answer c.checksum.ensures) c.put_found.ensures
