-- `answers::lists::put_entry` meets its contract.
use Rattle.std.specs.Prelude.{Some}
use mathlib.Core.Path.{sym, ap, ◌∙◌}
use Rattle.answers.specs.AnswerWords.{entry_answer}
use Rattle.answers.proofs.AnswerSlices.{unanswered, answered_as}
use Rattle.answers.proofs.lists.put_entry.Goals as goal

pub returns-in-None : goal.returns-in-None
returns-in-None c = unanswered _ _ (ap entry_answer (sym c.in-None.is))

pub returns-in-Some : goal.returns-in-Some
returns-in-Some c =
    answered_as _ _ _ _ _ (ap Some c.entry_words-words.ensures ∙ ap entry_answer (sym c.in-Some.is)) c.put_answer.ensures
