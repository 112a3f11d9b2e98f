-- `target_counts::count::words_hold` meets its contract.
use native.Mathlib.Omega.{arith}
use Rattle.target_counts.proofs.Counting.{few_hold, hold_start, hold_next, hold_not, hold_end}
use Rattle.target_counts.proofs.count.words_hold.Goals as goal

pub returns-then-count : goal.returns-then-count
returns-then-count c = few_hold _ (omega (arith, c.node_count-count.ensures))

pub loop-n-init : goal.loop-n-init
loop-n-init c = hold_start _

pub returns-then-pointed_at : goal.returns-then-pointed_at
returns-then-pointed_at c = hold_not _ _ _ (omega (arith, c.node_count-count.ensures, c.loop-n-test.true)) c.pointed_at.ensures c.if-pointed_at.true

pub loop-n-smaller : goal.loop-n-smaller
loop-n-smaller c = omega (arith, c.node_count-count.ensures, c.loop-n-test.true)

pub loop-n-preserved : goal.loop-n-preserved
loop-n-preserved c = hold_next _ _ _ c.loop-n.invariant (omega (arith, c.node_count-count.ensures, c.loop-n-test.true)) c.pointed_at.ensures c.if-pointed_at.false

pub returns : goal.returns
returns c = hold_end _ _ c.loop-n.invariant (omega (arith, c.node_count-count.ensures, c.loop-n-test.false))
