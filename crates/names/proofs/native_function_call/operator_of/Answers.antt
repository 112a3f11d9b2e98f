-- `names::native_function_call::operator_of` meets its contract.
use mathlib.Core.Path.{◌∙◌}
use Rattle.names.specs.NativeFunctionCall.{ops}
use Rattle.names.proofs.Numbers.{looked_up}
use Rattle.names.proofs.native_function_call.operator_of.Goals as goal

pub returns : goal.returns
unfolding ops
returns c = rw (← c.from.ensures) (c.copied.ensures ∙ looked_up ops c.from.result _ c.get.ensures.lookup)
