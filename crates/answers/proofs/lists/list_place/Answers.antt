-- `answers::lists::list_place` meets its contract.
use mathlib.Core.Path.{refl, sym, ap, ◌∙◌}
use lib.ListN.{length}
use Rattle.image.proofs.Views.{payload_by, strings_by}
use Rattle.views.proofs.Answers.{view-missing, view-found}
use Rattle.answers.specs.NodeViewWords.{list_place}
use Rattle.answers.proofs.ListPlaces.{record_place}
use Rattle.answers.proofs.lists.list_place.Goals as goal

pub returns-in_err-node : goal.returns-in_err-node
returns-in_err-node c = rw c.from_residual.ensures (ap list_place (view-missing _ _ _ c.node_of.ensures c.in_err-node.was))

pub returns : goal.returns
returns c =
    let payload = ap length (payload_by _ _ ∙ sym c.section_part-payload.ensures) in
    c.place_of.ensures ∙ record_place _ _ c.in_ok-node.node
    ∙ ap list_place (view-found _ _ _ c.node_of.ensures _ c.in_ok-node.was _ _ payload (strings_by _ _) _ refl)
