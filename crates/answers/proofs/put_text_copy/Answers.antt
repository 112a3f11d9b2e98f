-- `answers::put_text_copy` meets its contract.
use Rattle.answers.proofs.LentSlices.{no_size, no_room, roomy}
use borrow.Author.Rules.{rules}
use Rattle.answers.proofs.put_text_copy.Goals as goal

pub returns-then-size-lt1 : goal.returns-then-size-lt1
returns-then-size-lt1 c = search (rules, no_size)

pub returns-then-text-part : goal.returns-then-text-part
returns-then-text-part c = search (rules, no_room)

pub returns : goal.returns
returns c = search (rules, roomy)
