-- `depth::depth` meets its contract. The loop's invariant: so many steps have led to the node, and the rest are those from it.
use native.Mathlib.Omega.{arith}
use Rattle.depth.proofs.ClimbLoop.{loop_start, loop_end, loop_out, loop_root, loop_above, at_below, node-there}
use Rattle.depth.proofs.depth.Goals as goal

pub loop-steps-init : goal.loop-steps-init
loop-steps-init c = loop_start _ _ _ c.nodes_part-nodes.ensures _ c.node_count-count.ensures _

pub returns-then-not-is_inside : goal.returns-then-not-is_inside
returns-then-not-is_inside c =
    let l = c in
    loop_out _ _ _ l.nodes_part-nodes.ensures _ l.node_count-count.ensures _ _ _ l.loop-steps.invariant _ c.is_inside.ensures
    c.if-not-is_inside.true-raw

pub returns-then-at-eq0 : goal.returns-then-at-eq0
returns-then-at-eq0 c =
    let l = c in
    loop_root _ _ _ l.nodes_part-nodes.ensures _ l.node_count-count.ensures _ _ _ l.loop-steps.invariant _ c.is_inside.ensures
    c.if-not-is_inside.false-raw (omega arith) c.if-at-eq0.true

pub overflow_cast-at : goal.overflow_cast-at
overflow_cast-at c =
    let l = c in
    omega (
      arith,
      at_below _ _ _ l.nodes_part-nodes.ensures _ l.node_count-count.ensures _ _ _ l.loop-steps.invariant _ c.is_inside.ensures
          c.if-not-is_inside.false-raw,
    )

pub node_word-at-requires : goal.node_word-at-requires
node_word-at-requires c =
    let l = c in
    node-there _ _ _ l.nodes_part-nodes.ensures _ l.node_count-count.ensures _ _ _ l.loop-steps.invariant _ c.is_inside.ensures
    c.if-not-is_inside.false-raw

pub loop-steps-preserved : goal.loop-steps-preserved
loop-steps-preserved c =
    let l = c in
    loop_above _ _ _ l.nodes_part-nodes.ensures _ l.node_count-count.ensures _ _ _ l.loop-steps.invariant _
    c.is_inside.ensures c.if-not-is_inside.false-raw (omega arith) c.if-at-eq0.false _
    c.node_word-at.ensures

pub returns : goal.returns
returns c =
    let l = c in
    loop_end _ _ _ l.nodes_part-nodes.ensures _ l.node_count-count.ensures _ _ _ l.loop-steps.invariant (omega arith)
