-- `tree::clear` meets its contract.
use native.Mathlib.Omega.{arith}
use borrow.Author.Fill.{fill_more}
use mathlib.Core.Path.{◌≡◌, refl}
use lib.ListN.{length-set}
use borrow.Author.Rules.{rules}
use Rattle.tree.proofs.clear.Goals as goal

pub loop-i-init : goal.loop-i-init
loop-i-init c = (search rules, refl, refl)

pub loop-i-preserved : goal.loop-i-preserved
loop-i-preserved c = (search rules, simp length-set c.loop-i.invariant.1, rw c.loop-i.invariant.2 (fill_more c.loop-i.i 0 c.args.work.now (omega arith)))

pub returns : goal.returns
returns c =
    let e : c.loop-i.i ≡ c.args.n = omega arith in
    rw (← e) c.loop-i.invariant.2
