-- `sleeper::node_words::put_node_view` meets its contract.
use mathlib.Core.Path.{sym, ◌∙◌}
use Rattle.image.proofs.Views.{counts}
use Rattle.answers.proofs.AnswerSlices.{unanswered, answered_as}
use Rattle.sleeper.proofs.SectionPlaces.{view-inside}
use Rattle.sleeper.proofs.SeenWords.{words-missing, words-found}
use Rattle.sleeper.proofs.node_words.put_node_view.Goals as goal

pub node_of-requires : goal.node_of-requires
node_of-requires c = let lent = c.args in (view-inside lent.bytes.now lent.view _ c.with_places-whole.ensures).nodes

pub part-strings-requires : goal.part-strings-requires
part-strings-requires c =
    let placed = c in
    let lent = placed.args in
    (view-inside lent.bytes.now lent.view _ placed.with_places-whole.ensures).strings

pub returns-in-None : goal.returns-in-None
returns-in-None c = unanswered _ _ (words-missing _ _ _ c.with_places-whole.ensures _ _ c.node_of.ensures c.in-None.is)

pub returns-in-Some : goal.returns-in-Some
returns-in-Some c =
    let found = c in
    let placed = found.with_places-whole.ensures in
    let lent = found.args in
    let inside = view-inside lent.bytes.now lent.view _ placed in
    answered_as _ _ _ _ _ (words-found _ _ _ placed _ _ found.node_of.ensures _ c.in-Some.is _ (c.payload_length.ensures ∙ sym (counts _ _ inside).payload) _ c.part-strings.ensures) c.put_record_view.ensures
