-- `answers::node::put_node_view` meets its contract.
use mathlib.Core.Path.{refl, sym, ap, ◌∙◌}
use lib.ListN.{length}
use Rattle.image.proofs.Views.{payload_by, strings_by}
use Rattle.views.proofs.Answers.{view-missing, view-found}
use Rattle.answers.specs.NodeViewWords.{node_answer}
use Rattle.answers.proofs.AnswerSlices.{unanswered, answered_as}
use Rattle.answers.proofs.node.put_node_view.Goals as goal

pub returns-in-None : goal.returns-in-None
returns-in-None c = unanswered _ _ (ap node_answer (view-missing _ _ _ c.node_of.ensures c.in-None.is))

pub returns-in-Some : goal.returns-in-Some
returns-in-Some c =
    let payload = ap length (payload_by _ _ ∙ sym c.section_part-payload.ensures) in
    let strings = strings_by _ _ ∙ sym c.section_part-strings.ensures in
    answered_as _ _ _ _ _ (ap node_answer (view-found _ _ _ c.node_of.ensures _ c.in-Some.is _ _ payload strings _ refl)) c.put_record_view.ensures
