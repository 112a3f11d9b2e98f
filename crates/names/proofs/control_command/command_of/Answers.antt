-- `names::control_command::command_of` meets its contract.
use mathlib.Core.Path.{◌∙◌}
use Rattle.names.specs.ControlCommand.{command_types}
use Rattle.names.proofs.Numbers.{looked_up}
use Rattle.names.proofs.control_command.command_of.Goals as goal

pub returns : goal.returns
unfolding command_types
returns c = rw (← c.from.ensures) (c.copied.ensures ∙ looked_up command_types c.from.result _ c.get.ensures.lookup)
