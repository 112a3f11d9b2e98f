-- `answers::lists::put_list_counts` meets its contract.
use Rattle.answers.proofs.AnswerSlices.{unanswered, answered_as, no_counts, counts_some}
use Rattle.answers.proofs.lists.put_list_counts.Goals as goal

pub returns-then-payload-lt-HEAD_BYTES : goal.returns-then-payload-lt-HEAD_BYTES
returns-then-payload-lt-HEAD_BYTES c = unanswered _ _ (no_counts c.args.payload.now c.if-payload-lt-HEAD_BYTES.true)

pub returns : goal.returns
returns c =
    let a = c.args in
    answered_as _ _ _ _ _ (counts_some a.payload.now c.if-payload-lt-HEAD_BYTES.false _ _ c.word.ensures c.word-2.ensures) c.put_answer.ensures
