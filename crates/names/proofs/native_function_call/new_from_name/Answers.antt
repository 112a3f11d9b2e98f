-- `names::native_function_call::new_from_name` meets its contract.
use mathlib.Core.Path.{◌∙◌}
use Rattle.names.specs.Names.{operators}
use Rattle.names.specs.NativeFunctionCall.{ops}
use Rattle.names.proofs.Numbers.{named_yes, named_no}
use Rattle.names.proofs.native_function_call.new_from_name.Goals as goal

pub returns-in_err-operator_number : goal.returns-in_err-operator_number
returns-in_err-operator_number c = c.from_residual.ensures ∙ named_no ops operators _ c.in_err-operator_number.ensures

pub returns : goal.returns
returns c = named_yes ops operators _ _ _ c.in_ok-operator_number.ensures c.operator_of.ensures
