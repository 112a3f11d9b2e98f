-- `names::native_function_call::get_name` meets its contract.
use native.Mathlib.Omega.{arith}
use Rattle.names.proofs.Numbers.{number-below}
use Rattle.names.proofs.Operators.{operators_numbered}
use Rattle.names.proofs.native_function_call.get_name.Goals as goal

pub name-requires : goal.name-requires
name-requires c = rw (c.names.ensures, c.number_of.ensures) (omega arith, number-below operators_numbered c.args.op)
