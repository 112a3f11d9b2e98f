-- `texts::put_decimal` meets its contract. The invariant: what is to be written stands behind the digits of what is left.
use native.Mathlib.Omega.{arith}
use Prim.Native.Nat.{◌-◌}
use mathlib.Core.Path.{◌≡◌, sym, ◌∙◌}
use Rattle.texts.proofs.Decimal.{decimal-some, length_more, few_digits, many_digits, digit-written, digit-first}
use Rattle.texts.proofs.put_decimal.Goals as goal

pub loop-i-preserved : goal.loop-i-preserved
loop-i-preserved c =
    let l = c.loop-i in
    let h = many_digits l.left (omega arith) in
    (omega (arith, length_more l.left h), l.invariant.1 ∙ rw c.digit_of.ensures (digit-written l.out (l.i - 1) l.i l.left (omega arith) (omega arith) h))

pub digit_of-requires-2 : goal.digit_of-requires-2
digit_of-requires-2 c = few_digits c.loop-i.left (omega (arith, decimal-some c.loop-i.left))

pub bounds-out-0 : goal.bounds-out-0
bounds-out-0 c = omega (arith, decimal-some c.args.n)

pub returns : goal.returns
returns c =
    let l = c.loop-i in
    let one : l.i ≡ 1 = omega (arith, decimal-some l.left) in
    sym (l.invariant.1 ∙ rw (one, c.digit_of-2.ensures) (digit-first l.out l.left (omega (arith, decimal-some c.args.n)) (few_digits l.left (omega arith))))
