-- `views::view::command` meets its contract.
use mathlib.Core.Path.{◌∙◌}
use Rattle.views.specs.Shown.{command_view}
use Rattle.views.proofs.view.command.Goals as goal

pub returns : goal.returns
unfolding command_view
returns c = rw (← c.new_from_name.ensures, c.in_ok-command.was)

pub returns-in_err-command : goal.returns-in_err-command
unfolding command_view
returns-in_err-command c = c.from_residual.ensures ∙ rw (← c.new_from_name.ensures, c.in_err-command.was)
