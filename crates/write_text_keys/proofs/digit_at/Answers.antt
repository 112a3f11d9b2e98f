-- `write_text_keys::digit_at` meets its contract. The invariant: digit i of what is left is digit i of n, and one digit fewer is left after each turn.
use native.Mathlib.Omega.{arith}
use mathlib.Core.Path.{sym, ◌∙◌}
use Rattle.write_text_keys.proofs.Digits.{digit-before, digit-last}
use Rattle.write_text_keys.proofs.digit_at.Goals as goal

pub loop-behind-preserved : goal.loop-behind-preserved
loop-behind-preserved c =
    let one = digit-before c.loop-behind.rest c.args.i (omega arith) in
    (omega (arith, one.0), c.loop-behind.invariant.1 ∙ one.1)

pub returns : goal.returns
returns c = sym (c.loop-behind.invariant.1 ∙ digit-last c.loop-behind.rest c.args.i (omega arith))
