-- `views::view::node_view` meets its contract.
use Rattle.views.proofs.Answers.{view-missing, view-found}
use mathlib.Core.Path.{sym, ap, ◌∙◌}
use lib.ListN.{length}
use Rattle.image.proofs.Views.{payload_by, strings_by}
use Rattle.views.proofs.view.node_view.Goals as goal

pub returns-in_err-node : goal.returns-in_err-node
returns-in_err-node c = c.from_residual.ensures ∙ view-missing _ _ _ c.node_of.ensures c.in_err-node.was

pub returns : goal.returns
returns c = view-found _ _ _ c.node_of.ensures _ c.in_ok-node.was _ _ (ap length (payload_by _ _ ∙ sym c.section_part-payload.ensures)) (strings_by _ _ ∙ sym c.section_part-strings.ensures) _ c.record_view.ensures
