-- `write_tree_sections::children::put_children` meets its contract.
use Prim.Native.Nat.{◌+◌, ◌*◌, ◌≤◌}
use native.Mathlib.Omega.{arith}
use lib.ListN.{length}
use Rattle.write_tree_sections.proofs.ChildWords.{begin, step_room, step-next, finish}
use Rattle.write_tree_sections.proofs.children.put_children.Goals.{After-if_container-own}
use Rattle.write_tree_sections.proofs.children.put_children.Goals as goal

-- the node's children fit
room : (c : After-if_container-own) → c.loop-j.at + 4 * c.if_container-own.result ≤ length c.loop-j.out
room c =
    step_room _ _ _ _ _ _ _ _ _ _ c.loop-j.invariant (rw c.node_count-count.ensures at c.loop-j-test.true) _ c.word.ensures _ c.node_at-node.ensures _ c.if_container-own.ensures

pub loop-j-init : goal.loop-j-init
loop-j-init c = begin _ _ _ _ _ _ _ c.requires.count_in_bounds

pub overflow_add-order : goal.overflow_add-order
overflow_add-order c = omega (arith, c.requires.order_fits.order_end)

pub node_at-node-requires : goal.node_at-node-requires
node_at-node-requires c = omega (arith, c.word.ensures, c.requires.order_fits.olds _ (rw c.node_count-count.ensures at c.loop-j-test.true))

pub put_children_of-requires : goal.put_children_of-requires
put_children_of-requires c = (c.requires.order_fits.new_start, room (goal.at.put_children_of-requires c).After-if_container-own)

pub overflow_add-at : goal.overflow_add-at
overflow_add-at c = omega (arith, room (goal.at.overflow_add-at c).After-if_container-own, c.loop-j.invariant.long, c.well_formed.1.1.1.1.0)

pub loop-j-preserved : goal.loop-j-preserved
loop-j-preserved c =
    step-next _ _ _ _ _ _ _ _ _ _ c.loop-j.invariant (rw c.node_count-count.ensures at c.loop-j-test.true) _ c.word.ensures _ c.node_at-node.ensures _ c.if_container-own.ensures _
    c.put_children_of.ensures

pub returns : goal.returns
returns c = λ s order kept e d k p o n. finish s _ _ _ order _ kept _ _ _ _ _ _ c.loop-j.invariant (rw c.node_count-count.ensures at c.loop-j-test.false) c.requires.order_fits.olds e d k p o n
