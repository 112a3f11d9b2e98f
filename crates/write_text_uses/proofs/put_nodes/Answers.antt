-- `write_text_uses::put_nodes` meets its contract.
use Rattle.write_text_uses.specs.Uses.{all_node_pairs}
use Rattle.write_text_uses.proofs.Puts.{ordered-start, ordered-room, ordered-next, old_read, going_end}
use Rattle.write_text_uses.proofs.Nodes.{node_needs}
use Rattle.write_text_uses.proofs.put_nodes.Goals as goal

pub loop-j-init : goal.loop-j-init
unfolding all_node_pairs
loop-j-init c = ordered-start _ _ _ _ _ c.requires.1 c.requires.2

pub put_node-k-requires : goal.put_node-k-requires
put_node-k-requires c =
    let asked = c.requires in
    let loop = c.loop-j in
    let test = c.loop-j-test in
    let node-count = c.node_count-count in
    let below = rw node-count.ensures at test.true in
    let needs = node_needs _ _ _ _ asked.0 _ _ below (old_read _ _ _ _ _ _ _ _ loop.invariant below) (ordered-room _ _ _ _ _ _ _ _ loop.invariant below) in
    record { i_in_bounds = needs.0; list_inside = needs.1.0; room = needs.1.1 }

pub loop-j-preserved : goal.loop-j-preserved
loop-j-preserved c =
    let loop = c.loop-j in
    let test = c.loop-j-test in
    let node-count = c.node_count-count in
    let below = rw node-count.ensures at test.true in
    ordered-next _ _ _ _ _ _ _ _ loop.invariant below _ _ c.put_node-k.ensures

pub returns : goal.returns
unfolding all_node_pairs
returns c = going_end _ _ _ _ _ _ _ c.loop-j.invariant.going (rw c.node_count-count.ensures at c.loop-j-test.false)
