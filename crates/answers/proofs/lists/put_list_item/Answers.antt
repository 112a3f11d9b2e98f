-- `answers::lists::put_list_item` meets its contract.
use mathlib.Core.Path.{sym, ap}
use Rattle.answers.specs.AnswerWords.{list_item_answer}
use Rattle.answers.proofs.AnswerSlices.{unanswered, answered_as}
use Rattle.answers.proofs.lists.put_list_item.Goals as goal

pub returns-in-None : goal.returns-in-None
returns-in-None c = unanswered _ _ (ap list_item_answer (sym c.in-None.is))

pub returns-in-Some : goal.returns-in-Some
returns-in-Some c = answered_as _ _ _ _ _ (ap list_item_answer (sym c.in-Some.is)) c.put_item_numbers.ensures
