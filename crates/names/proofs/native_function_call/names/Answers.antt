-- `names::native_function_call::names` meets its contract: what it holds is computed.
use mathlib.Core.Path.{refl}
use Rattle.laws.specs.Counted.{counted}
use Rattle.names.specs.Names.{names}
use Rattle.names.specs.Spelling.{spellings}
use Rattle.names.specs.Table.{tables}
use Rattle.names.proofs.native_function_call.names.Goals as goal

pub invariant_of-result : goal.invariant_of-result
unfolding counted spellings tables
invariant_of-result c = record { sized = refl; right = refl }

pub returns : goal.returns
unfolding names tables
returns c = refl
