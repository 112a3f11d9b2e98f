-- `target_counts::count::image_nodes` meets its contract.
use mathlib.Core.Path.{refl, sym}
use native.Mathlib.Omega.{arith}
use Rattle.target_counts.proofs.Counting.{target-read, few_hold, loop_start, loop_fits, loop_next, loop_end}
use Rattle.target_counts.proofs.count.image_nodes.Goals as goal

pub loop-i-init : goal.loop-i-init
loop-i-init c = loop_start _ _ _ _ c.requires.1 c.clear.ensures c.requires.0

pub node_record-node-requires : goal.node_record-node-requires
node_record-node-requires c = omega (arith, c.requires.0, c.loop-i-test.true)

pub add-requires : goal.add-requires
add-requires c = (omega (arith, c.loop-i.invariant.room, c.loop-i.invariant.long), λ h. loop_fits _ _ _ _ _ c.loop-i.invariant (sym (few_hold _ (omega (arith, c.requires.0, c.requires.2)))) c.loop-i-test.true _ (target-read _ _ _ _ _ _ refl refl c.node_record-node.ensures c.target_of.ensures) h)

pub loop-i-preserved : goal.loop-i-preserved
loop-i-preserved c = loop_next _ _ _ _ _ c.loop-i.invariant c.loop-i-test.true _ (target-read _ _ _ _ _ _ refl refl c.node_record-node.ensures c.target_of.ensures) _ c.add.ensures

pub returns : goal.returns
returns c = loop_end _ _ _ _ c.requires.1 c.clear.ensures _ _ c.loop-i.invariant c.loop-i-test.false
