-- `write_tree_sections::nodes::put_nodes` meets its contract.
use Prim.Native.Nat.{◌/◌, ◌<◌}
use mathlib.Core.Path.{refl}
use native.Mathlib.Omega.{arith}
use lib.ListN.{length}
use Rattle.image.specs.Sections.{node_words}
use Rattle.image.proofs.Widths.{width}
use Rattle.write_tree_sections.proofs.NodeLoop.{begin, step_room, step-text, step-texts, step-starts, step-next, finish}
use Rattle.write_tree_sections.proofs.nodes.put_nodes.Goals.{In-loop-j}
use Rattle.write_tree_sections.proofs.nodes.put_nodes.Goals as goal

-- j is one of the nodes
below : (c : In-loop-j) → c.loop-j.j < length c.args.nodes.now / node_words c.args.source.version
below c = rw c.node_count-count.ensures at c.loop-j-test.true

pub overflow_mul-size : goal.overflow_mul-size
overflow_mul-size c = omega (arith, c.node_words-size.ensures, (width c.args.source.version).most)

pub loop-j-init : goal.loop-j-init
loop-j-init c = begin _ _ _ _ _ c.requires.nodes_fit _ c.requires.version_in_bounds

pub overflow_add-order : goal.overflow_add-order
overflow_add-order c = omega (arith, c.requires.nodes_fit.order.order_end)

pub node_at-node-requires : goal.node_at-node-requires
node_at-node-requires c = omega (arith, c.word.ensures, c.requires.nodes_fit.order.olds _ (below (goal.at.node_at-node-requires c).In-loop-j))

pub encode_kind-requires : goal.encode_kind-requires
encode_kind-requires c =
    (c.requires.nodes_fit.order.new_start, step-text _ _ _ _ _ c.requires.nodes_fit _ _ _ _ _ _ c.loop-j.invariant (below (goal.at.encode_kind-requires c).In-loop-j))

pub put_record-requires : goal.put_record-requires
put_record-requires c = step_room _ _ _ _ _ c.requires.nodes_fit _ _ _ _ _ _ c.loop-j.invariant (below (goal.at.put_record-requires c).In-loop-j)

pub overflow_add-next_text : goal.overflow_add-next_text
overflow_add-next_text c =
    let texts = step-texts _ _ _ _ _ c.requires.nodes_fit _ _ _ _ _ _ c.loop-j.invariant (below (goal.at.overflow_add-next_text c).In-loop-j) _ c.word.ensures _ c.node_at-node.ensures _ c.texts_of-next_text.ensures in
    omega (arith, texts, c.well_formed.1.1.0)

pub after-starts-requires : goal.after-starts-requires
after-starts-requires c =
    step-starts _ _ _ _ _ c.requires.nodes_fit _ _ _ _ _ _ c.loop-j.invariant (below (goal.at.after-starts-requires c).In-loop-j) _ c.word.ensures _ c.node_at-node.ensures

pub overflow_add-at : goal.overflow_add-at
overflow_add-at c =
    let room = step_room _ _ _ _ _ c.requires.nodes_fit _ _ _ _ _ _ c.loop-j.invariant (below (goal.at.overflow_add-at c).In-loop-j) in
    omega (arith, room, c.loop-j.invariant.running.long, c.well_formed.1.1.1.1.0, c.node_words-size.ensures)

pub loop-j-preserved : goal.loop-j-preserved
loop-j-preserved c =
    step-next _ _ _ _ _ c.requires.nodes_fit _ _ _ _ _ _ c.loop-j.invariant (below (goal.at.loop-j-preserved c).In-loop-j) _ c.word.ensures _ c.node_at-node.ensures _ c.encode_kind.ensures _
    c.put_record.ensures _ c.texts_of-next_text.ensures _ c.after-starts.ensures _ (rw c.node_words-size.ensures refl)

pub returns : goal.returns
returns c = λ s order kept e d b. finish s _ _ _ _ _ order kept c.requires.nodes_fit _ _ _ _ _ _ c.loop-j.invariant (rw c.node_count-count.ensures at c.loop-j-test.false) e d b
