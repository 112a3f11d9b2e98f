-- `target_counts::count::add` meets its contract.
use native.Mathlib.Omega.{arith}
use Rattle.target_counts.proofs.Counting.{counted_none, counted_out, counted_in}
use Rattle.target_counts.proofs.count.add.Goals as goal

pub returns-then-target-eq-NONE : goal.returns-then-target-eq-NONE
returns-then-target-eq-NONE c = counted_none _ _ _ c.if-target-eq-NONE.true

pub returns-then-count-at : goal.returns-then-count-at
returns-then-count-at c = counted_out _ _ _ c.if-target-eq-NONE.false c.if-count-at.true

pub overflow_add-summary : goal.overflow_add-summary
overflow_add-summary c = omega (arith, c.requires.1 c.if-count-at.false)

pub returns : goal.returns
returns c = counted_in _ _ _ c.if-target-eq-NONE.false c.if-count-at.false
