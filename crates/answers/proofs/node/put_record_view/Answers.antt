-- `answers::node::put_record_view` meets its contract.
use Rattle.views.specs.View.{record_view}
use mathlib.Core.Path.{sym, ap, ◌∙◌}
use Rattle.answers.specs.RecordWords.{words_found}
use Rattle.answers.proofs.AnswerSlices.{unanswered, answered_as, fitting}
use Rattle.answers.proofs.Records.{kind-missing, kind-viewed, view-short}
use Rattle.answers.proofs.node.put_record_view.Goals as goal

pub returns-then-answer-lt-NODE_VIEW_WORDS : goal.returns-then-answer-lt-NODE_VIEW_WORDS
returns-then-answer-lt-NODE_VIEW_WORDS c = let a = c.args in view-short (record_view a.strings.now a.payload a.node) _ c.if-answer-lt-NODE_VIEW_WORDS.true

pub returns-in-None : goal.returns-in-None
returns-in-None c = let a = c.args in unanswered _ _ (kind-missing a.strings.now a.payload a.node (ap words_found (sym c.in-None.is) ∙ c.kind_words.ensures))

pub returns-in-Some : goal.returns-in-Some
returns-in-Some c =
    let a = c.args in
    let words = ap words_found (sym c.in-Some.is) ∙ c.kind_words.ensures in
    answered_as _ _ _ _ _ (kind-viewed a.strings.now a.payload a.node _ words) (fitting _ _ c.if-answer-lt-NODE_VIEW_WORDS.false _ c.put_ten.ensures)
