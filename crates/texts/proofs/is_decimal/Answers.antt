-- `texts::is_decimal` meets its contract. The invariant: the text is n in decimal if its first i bytes are what is left of n in decimal.
use borrow.Author.Rules.{rules}
use native.Mathlib.Omega.{arith}
use Prim.Native.Nat.{◌-◌}
use mathlib.Core.Path.{◌≡◌, sym, ◌∙◌}
use lib.Seq.{take-length}
use Rattle.texts.proofs.Decimal.{decimal-some, length_one, digit-like, digit-unlike, digits-unlike, digit-alone}
use Rattle.texts.proofs.is_decimal.Goals as goal

pub loop-rest-init : goal.loop-rest-init
loop-rest-init c = (search rules, rw take-length)

pub returns-then-i-eq0 : goal.returns-then-i-eq0
returns-then-i-eq0 c =
    let at = c in
    let t = at.args.t.now in
    sym (at.loop-rest.invariant.1 ∙ digits-unlike t at.loop-rest.i at.loop-rest.rest at.loop-rest.invariant.0 (λ e. omega (arith, decimal-some at.loop-rest.rest)))

pub returns-then-t-i : goal.returns-then-t-i
returns-then-t-i c =
    let at = c in
    let t = at.args.t.now in
    sym (at.loop-rest.invariant.1 ∙ digit-unlike t (at.loop-rest.i - 1) at.loop-rest.i at.loop-rest.rest (omega arith) (omega arith) c.loop-rest-test.true (λ e. c.if-t-i.true (e ∙ sym c.digit_of.ensures)))

pub loop-rest-preserved : goal.loop-rest-preserved
loop-rest-preserved c =
    let at = c in
    let t = at.args.t.now in
    let like = c.if-t-i.false ∙ c.digit_of.ensures in
    (omega arith, at.loop-rest.invariant.1 ∙ digit-like t (at.loop-rest.i - 1) at.loop-rest.i at.loop-rest.rest (omega arith) (omega arith) c.loop-rest-test.true like)

pub returns-then-i-ne1 : goal.returns-then-i-ne1
returns-then-i-ne1 c =
    let at = c in
    let t = at.args.t.now in
    sym (at.loop-rest.invariant.1 ∙ digits-unlike t at.loop-rest.i at.loop-rest.rest at.loop-rest.invariant.0 (λ e. c.if-i-ne1.true (e ∙ length_one at.loop-rest.rest c.loop-rest-test.false)))

pub returns : goal.returns
returns c =
    let at = c in
    let t = at.args.t.now in
    let one : at.loop-rest.i ≡ 1 = c.if-i-ne1.false in
    sym (at.loop-rest.invariant.1 ∙ rw (one, c.digit_of-2.ensures) (digit-alone t at.loop-rest.rest (omega arith) c.loop-rest-test.false))
