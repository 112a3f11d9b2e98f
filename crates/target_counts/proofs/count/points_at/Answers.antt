-- `target_counts::count::points_at` meets its contract.
use Rattle.target_counts.proofs.Points.{points_nowhere, points_here, points_elsewhere}
use Rattle.target_counts.proofs.count.points_at.Goals as goal

pub returns-then-target-eq-NONE : goal.returns-then-target-eq-NONE
returns-then-target-eq-NONE c = points_nowhere _ _ c.if-target-eq-NONE.true

pub returns-then-target-n : goal.returns-then-target-n
returns-then-target-n c = points_here _ _ c.if-target-eq-NONE.false c.if-target-n.true

pub returns-else-target-n : goal.returns-else-target-n
returns-else-target-n c = points_elsewhere _ _ c.if-target-eq-NONE.false c.if-target-n.false
