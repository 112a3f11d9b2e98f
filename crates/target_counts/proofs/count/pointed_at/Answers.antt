-- `target_counts::count::pointed_at` meets its contract.
use Prim.Native.Nat.{ℕ}
use mathlib.Core.Path.{refl, ap, ◌∙◌}
use native.Mathlib.Omega.{arith}
use Rattle.target_counts.specs.Summary.{points_at}
use Rattle.target_counts.proofs.Points.{at_most_one}
use Rattle.target_counts.proofs.Counting.{target-read, pointed-start, pointed-next, pointed_end}
use Rattle.target_counts.proofs.count.pointed_at.Goals as goal

pub loop-i-init : goal.loop-i-init
loop-i-init c = pointed-start _ _

pub node_at-requires : goal.node_at-requires
node_at-requires c = omega arith

pub overflow_add-pointed : goal.overflow_add-pointed
overflow_add-pointed c = omega (arith, at_most_one _ _ _ c.points_at-pointed.ensures)

pub loop-i-smaller : goal.loop-i-smaller
loop-i-smaller c = omega arith

pub loop-i-preserved : goal.loop-i-preserved
loop-i-preserved c = pointed-next _ _ _ _ _ c.loop-i.invariant (omega (arith, c.node_count-count.ensures, c.loop-i-test.true)) (c.points_at-pointed.ensures ∙ ap (λ (x : ℕ). points_at x c.args.n) (target-read _ _ _ _ _ _ refl refl c.node_at.ensures c.target_of.ensures))

pub returns : goal.returns
returns c = pointed_end _ _ _ _ c.loop-i.invariant (omega (arith, c.node_count-count.ensures, c.loop-i-test.false))
