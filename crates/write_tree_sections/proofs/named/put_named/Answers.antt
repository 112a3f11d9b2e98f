-- `write_tree_sections::named::put_named` meets its contract.
use Prim.Native.Nat.{◌+◌, ◌*◌, ◌≤◌}
use native.Mathlib.Omega.{arith}
use lib.ListN.{length}
use Rattle.image.specs.Sections.{text_entry_size}
use Rattle.write_tree_sections.proofs.NamedWords.{begin, step_room, step-text, step-next, finish}
use Rattle.write_tree_sections.proofs.named.put_named.Goals.{After-if_container-own}
use Rattle.write_tree_sections.proofs.named.put_named.Goals as goal

-- the node's named children fit, and there is an offset for the text of each
room : (c : After-if_container-own) → c.loop-j.at + text_entry_size * c.if_container-own.result ≤ length c.loop-j.out
room c =
    step_room _ _ _ _ _ _ c.requires.named_fit _ _ _ _ _ c.loop-j.invariant (rw c.node_count-count.ensures at c.loop-j-test.true) _ c.word.ensures _ c.node_at-node.ensures _ c.if_container-own.ensures

texts : (c : After-if_container-own) → c.loop-j.text + c.if_container-own.result ≤ length c.args.work.now
texts c =
    step-text _ _ _ _ _ _ c.requires.named_fit _ _ _ _ _ c.loop-j.invariant (rw c.node_count-count.ensures at c.loop-j-test.true) _ c.word.ensures _ c.node_at-node.ensures _ c.if_container-own.ensures

pub loop-j-init : goal.loop-j-init
loop-j-init c = begin _ _ _ _ _ _ c.requires.named_fit _ c.requires.count_in_bounds

pub overflow_add-order : goal.overflow_add-order
overflow_add-order c = omega (arith, c.requires.named_fit.order.order_end)

pub node_at-node-requires : goal.node_at-node-requires
node_at-node-requires c = omega (arith, c.word.ensures, c.requires.named_fit.order.olds _ (rw c.node_count-count.ensures at c.loop-j-test.true))

pub put_named_of-requires : goal.put_named_of-requires
put_named_of-requires c =
    let there = (goal.at.put_named_of-requires c).After-if_container-own in
    (c.requires.named_fit.order.new_start, omega (arith, texts there), room there)

pub overflow_add-text : goal.overflow_add-text
overflow_add-text c = omega (arith, texts (goal.at.overflow_add-text c).After-if_container-own)

pub overflow_add-at : goal.overflow_add-at
overflow_add-at c = omega (arith, room (goal.at.overflow_add-at c).After-if_container-own, c.loop-j.invariant.running.long, c.well_formed.1.1.1.1.1.0)

pub loop-j-preserved : goal.loop-j-preserved
loop-j-preserved c =
    step-next _ _ _ _ _ _ c.requires.named_fit _ _ _ _ _ c.loop-j.invariant (rw c.node_count-count.ensures at c.loop-j-test.true) _ c.word.ensures _ c.node_at-node.ensures _ c.if_container-own.ensures _
    c.put_named_of.ensures

pub returns : goal.returns
returns c = λ s order kept e d k. finish s _ _ _ order _ kept _ _ c.requires.named_fit _ _ _ _ _ c.loop-j.invariant (rw c.node_count-count.ensures at c.loop-j-test.false) e d k
