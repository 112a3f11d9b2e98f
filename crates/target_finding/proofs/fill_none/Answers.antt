-- `target_finding::fill_none` meets its contract.
use mathlib.Core.Path.{refl}
use lib.ListN.{length-set}
use native.Mathlib.Omega.{arith}
use borrow.Author.Rules.{rules}
use Rattle.target_finding.proofs.EntryLoop.{none-start, none_more, none_end}
use Rattle.target_finding.proofs.fill_none.Goals as goal

pub loop-at-init : goal.loop-at-init
loop-at-init c = (omega arith, refl, none-start c.args.work.now)

pub bounds-work-at : goal.bounds-work-at
bounds-work-at c = omega (arith, c.loop-at.invariant.1)

pub loop-at-preserved : goal.loop-at-preserved
loop-at-preserved c = (search rules, simp length-set c.loop-at.invariant.1, none_more c.loop-at.work c.loop-at.at (omega (arith, c.loop-at.invariant.1)) c.loop-at.invariant.2)

pub returns : goal.returns
returns c = none_end c.loop-at.work c.loop-at.at c.args.n c.loop-at-test.false c.loop-at.invariant.2
