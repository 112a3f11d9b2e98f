-- `story_image::write::write_without_words` meets its contract.
use Rattle.story_image.proofs.Writes.{number, output_by}
use Rattle.story_image.proofs.write.write_without_words.Goals as goal

pub returns : goal.returns
returns c =
    let said = c.encode-answer.ensures in
    let answer = number _ _ _ _ _ _ said.answer c.number_of.ensures in
    record {
      answer = answer;
      output = output_by _ _ _ _ _ answer said.output;
    }
