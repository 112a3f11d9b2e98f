-- `tree::all_marked` meets its contract.
use mathlib.Core.Path.{◌≡◌, refl, sym, ap}
use mathlib.Core.Bool.{not}
use native.Mathlib.Omega.{arith}
use borrow.Author.Tests.{eq-eqb, ne_eqb}
use Rattle.laws.specs.Counted.{all_of}
use Rattle.laws.proofs.Flags.{all_next, all_fails}
use Rattle.tree.specs.Work.{marked}
use borrow.Author.Rules.{rules}
use Rattle.tree.proofs.all_marked.Goals as goal

pub loop-i-init : goal.loop-i-init
unfolding all_of
loop-i-init c = (search rules, refl)

pub returns-then-work-i-eq0 : goal.returns-then-work-i-eq0
returns-then-work-i-eq0 c = sym (all_fails _ (marked c.args.work.now) _ c.loop-i-test.true (ap not (eq-eqb _ _ c.if-work-i-eq0.true)))

pub loop-i-preserved : goal.loop-i-preserved
loop-i-preserved c = (search rules, all_next _ (marked c.args.work.now) c.loop-i.invariant.1 (ap not (ne_eqb _ _ c.if-work-i-eq0.false)))

pub returns : goal.returns
returns c =
    let e : c.loop-i.i ≡ c.args.n = omega arith in
    sym (rw e at c.loop-i.invariant.1)
