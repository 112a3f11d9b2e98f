-- `answers::lists::put_total` meets its contract.
use Rattle.answers.proofs.AnswerSlices.{unanswered, answered_as, past-none, count-some}
use Rattle.answers.proofs.lists.put_total.Goals as goal

pub returns-then-count-gt-LARGEST_WORD : goal.returns-then-count-gt-LARGEST_WORD
returns-then-count-gt-LARGEST_WORD c = unanswered _ _ (past-none _ c.if-count-gt-LARGEST_WORD.true)

pub returns : goal.returns
returns c = answered_as _ _ _ _ _ (count-some _ c.if-count-gt-LARGEST_WORD.false) c.put_answer.ensures
