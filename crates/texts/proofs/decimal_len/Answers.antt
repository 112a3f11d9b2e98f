-- `texts::decimal_len` meets its contract.
use native.Mathlib.Omega.{arith}
use Rattle.texts.proofs.Decimal.{length_by_power, length-max}
use Rattle.texts.proofs.decimal_len.Goals as goal

pub returns : goal.returns
returns c = omega (arith, length-max c.args.n c.max.result c.max.ensures, length_by_power c.ilog10.result c.max.result c.ilog10.ensures.power_le c.ilog10.ensures.next_power_gt)
