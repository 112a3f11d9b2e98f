-- `views::view::record_view` meets its contract.
use mathlib.Core.Path.{◌∙◌}
use Rattle.views.specs.View.{record_view}
use Rattle.views.proofs.view.record_view.Goals as goal

pub returns-in_err-kind : goal.returns-in_err-kind
unfolding record_view
returns-in_err-kind c = c.from_residual.ensures ∙ rw (← c.kind_view.ensures, c.in_err-kind.was)

pub returns : goal.returns
unfolding record_view
returns c = rw (← c.kind_view.ensures, c.in_ok-kind.was) (cc)
