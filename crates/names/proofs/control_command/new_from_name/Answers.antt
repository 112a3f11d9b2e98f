-- `names::control_command::new_from_name` meets its contract.
use mathlib.Core.Path.{◌∙◌}
use Rattle.names.specs.Names.{commands}
use Rattle.names.specs.ControlCommand.{command_types}
use Rattle.names.proofs.Numbers.{named_yes, named_no}
use Rattle.names.proofs.control_command.new_from_name.Goals as goal

pub returns-in_err-command_number : goal.returns-in_err-command_number
returns-in_err-command_number c = c.from_residual.ensures ∙ named_no command_types commands _ c.in_err-command_number.ensures

pub returns : goal.returns
returns c = named_yes command_types commands _ _ _ c.in_ok-command_number.ensures c.command_of.ensures
