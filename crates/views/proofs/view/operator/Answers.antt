-- `views::view::operator` meets its contract.
use mathlib.Core.Path.{◌∙◌}
use Rattle.views.specs.Shown.{operator_view}
use Rattle.views.proofs.view.operator.Goals as goal

pub returns : goal.returns
unfolding operator_view
returns c = rw (← c.new_from_name.ensures, c.in_ok-op.was)

pub returns-in_err-op : goal.returns-in_err-op
unfolding operator_view
returns-in_err-op c = c.from_residual.ensures ∙ rw (← c.new_from_name.ensures, c.in_err-op.was)
