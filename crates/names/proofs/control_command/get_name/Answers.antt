-- `names::control_command::get_name` meets its contract.
use native.Mathlib.Omega.{arith}
use Rattle.names.proofs.Numbers.{number-below}
use Rattle.names.proofs.Commands.{commands_numbered}
use Rattle.names.proofs.control_command.get_name.Goals as goal

pub name-requires : goal.name-requires
name-requires c = rw (c.names.ensures, c.number_of.ensures) (omega arith, number-below commands_numbered c.args.command)
