-- `answers::put_answer` meets its contract.
use Rattle.answers.proofs.AnswerSlices.{fitting, too_short}
use Rattle.answers.proofs.put_answer.Goals as goal

pub returns-then-words-answer : goal.returns-then-words-answer
returns-then-words-answer c = fitting _ _ c.if-words-answer.true _ c.put_words.ensures

pub returns : goal.returns
returns c = too_short _ _ c.if-words-answer.false
