-- `sleeper_image::lists::put_entry` meets its contract.
use Rattle.std.specs.Prelude.{Some}
use mathlib.Core.Path.{sym, ap, ◌∙◌}
use Rattle.answers.proofs.AnswerSlices.{answered_as}
use Rattle.sleeper_image.specs.Queries.{entry_answer}
use Rattle.sleeper_image.proofs.Entries.{no_entry}
use borrow.Author.Rules.{rules}
use Rattle.sleeper_image.proofs.lists.put_entry.Goals as goal

pub returns-in-None : goal.returns-in-None
returns-in-None c = search (rules, no_entry)

pub returns-in-Some : goal.returns-in-Some
returns-in-Some c =
    answered_as _ _ _ _ _ (ap Some c.entry_words-words.ensures ∙ ap entry_answer (sym c.in-Some.is)) c.put_answer.ensures
