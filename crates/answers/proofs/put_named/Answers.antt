-- `answers::put_named` meets its contract.
use Rattle.std.specs.Prelude.{Some}
use mathlib.Core.Path.{sym, ap, ◌∙◌}
use Rattle.answers.specs.AnswerWords.{named_answer}
use Rattle.answers.proofs.AnswerSlices.{unanswered, answered_as}
use Rattle.answers.proofs.put_named.Goals as goal

pub returns-in-None : goal.returns-in-None
returns-in-None c = unanswered _ _ (ap named_answer (sym c.in-None.is))

pub returns-in-Some : goal.returns-in-Some
returns-in-Some c =
    answered_as _ _ _ _ _ (ap Some c.named_words-words.ensures ∙ ap named_answer (sym c.in-Some.is)) c.put_answer.ensures
