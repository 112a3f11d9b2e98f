-- `answers::lists::put_item_numbers` meets its contract.
use Rattle.answers.proofs.AnswerSlices.{unanswered, answered_as, definition-past, item-past, item-some}
use borrow.Author.Rules.{rules}
use Rattle.answers.proofs.lists.put_item_numbers.Goals as goal

pub returns-then-item-gt-LARGEST_WORD : goal.returns-then-item-gt-LARGEST_WORD
returns-then-item-gt-LARGEST_WORD c = unanswered _ _ (definition-past c.args.item c.if-item-gt-LARGEST_WORD.true)

pub returns-then-item-gt-LARGEST_WORD-2 : goal.returns-then-item-gt-LARGEST_WORD-2
returns-then-item-gt-LARGEST_WORD-2 c = unanswered _ _ (item-past c.args.item c.if-item-gt-LARGEST_WORD.false c.if-item-gt-LARGEST_WORD-2.true)

pub returns : goal.returns
returns c =
    let words = c in
    answered_as _ _ _ _ _ (item-some c.args.item c.if-item-gt-LARGEST_WORD.false c.if-item-gt-LARGEST_WORD-2.false _ (search rules) words.unsigned_of.ensures) c.put_answer.ensures
