-- `answers::put_part` meets its contract.
use Rattle.answers.proofs.AnswerSlices.{unanswered, answered_as, outside, past, part-some}
use Rattle.answers.proofs.put_part.Goals as goal

pub returns-then-bytes-start : goal.returns-then-bytes-start
returns-then-bytes-start c = let a = c.args in unanswered _ _ (outside _ a.section a.place c.if-bytes-start.true)

pub returns-then-start-gt-LARGEST_WORD : goal.returns-then-start-gt-LARGEST_WORD
returns-then-start-gt-LARGEST_WORD c = let a = c.args in unanswered _ _ (past _ a.section a.place c.if-bytes-start.false c.if-start-gt-LARGEST_WORD.true)

pub returns : goal.returns
returns c =
    let a = c.args in
    answered_as _ _ _ _ _ (part-some _ a.section a.place c.if-bytes-start.false c.if-start-gt-LARGEST_WORD.false) c.put_answer.ensures
