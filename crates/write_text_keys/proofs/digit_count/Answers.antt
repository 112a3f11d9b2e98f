-- `write_text_keys::digit_count` meets its contract.
use native.Mathlib.Omega.{arith}
use Rattle.texts.proofs.Decimal.{word-length}
use Rattle.write_text_keys.proofs.digit_count.Goals as goal

pub overflow_cast-result : goal.overflow_cast-result
overflow_cast-result c = omega (arith, word-length c.args.place (omega arith))
