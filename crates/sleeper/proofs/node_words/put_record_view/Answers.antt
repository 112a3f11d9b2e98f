-- `sleeper::node_words::put_record_view` meets its contract.
use mathlib.Core.Path.{sym, ap, ◌∙◌}
use Rattle.views.specs.View.{record_view}
use Rattle.answers.specs.RecordWords.{words_found}
use Rattle.answers.proofs.AnswerSlices.{unanswered, answered_as, fitting}
use Rattle.notes.specs.Notes.{hide_in}
use Rattle.sleeper.specs.Seen.{view_seen}
use Rattle.sleeper.proofs.SeenWords.{kind-seen, kind-missing, view-short}
use Rattle.sleeper.proofs.node_words.put_record_view.Goals as goal

pub returns-then-answer-lt-NODE_VIEW_WORDS : goal.returns-then-answer-lt-NODE_VIEW_WORDS
returns-then-answer-lt-NODE_VIEW_WORDS c = let a = c.args in view-short (view_seen (hide_in a.strings.now (record_view a.strings.now a.payload a.node))) _ c.if-answer-lt-NODE_VIEW_WORDS.true

pub returns-in-None : goal.returns-in-None
returns-in-None c = let a = c.args in unanswered _ _ (kind-missing a.strings.now a.payload a.node (ap words_found (sym c.in-None.is) ∙ c.kind_words.ensures))

pub returns-in-Some : goal.returns-in-Some
returns-in-Some c =
    let a = c.args in
    let words = ap words_found (sym c.in-Some.is) ∙ c.kind_words.ensures in
    answered_as _ _ _ _ _ (kind-seen a.strings.now _ _ c.hide_note.ensures a.payload a.node words) (fitting _ _ c.if-answer-lt-NODE_VIEW_WORDS.false _ c.put_eight.ensures)
