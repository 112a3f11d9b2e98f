-- `answers::put_text` meets its contract.
use mathlib.Core.Path.{sym, ap}
use Rattle.answers.specs.AnswerWords.{part_answer}
use Rattle.answers.proofs.AnswerSlices.{unanswered, answered_as}
use Rattle.answers.proofs.put_text.Goals as goal

pub returns-in-None : goal.returns-in-None
returns-in-None c = unanswered _ _ (ap (part_answer _ _) (sym c.in-None.is))

pub returns-in-Some : goal.returns-in-Some
returns-in-Some c = answered_as _ _ _ _ _ (ap (part_answer _ _) (sym c.in-Some.is)) c.put_part.ensures
