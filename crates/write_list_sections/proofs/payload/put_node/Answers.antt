-- `write_list_sections::payload::put_node` meets its contract.
use Rattle.write_list_sections.proofs.ListLoops.{node-asked, node_put, node_stays}
use Rattle.write_list_sections.proofs.payload.put_node.Goals as goal

pub returns-then-node-ne-LIST_VALUE : goal.returns-then-node-ne-LIST_VALUE
returns-then-node-ne-LIST_VALUE c =
    let to = c.args in
    node_stays to.payload.now to.w.now to.text to.node _ _ c.if-node-ne-LIST_VALUE.true

pub put_list-requires : goal.put_list-requires
put_list-requires c =
    let to = c.args in
    let asked = c.requires in
    let fits = node-asked to.payload.now to.w.now to.text to.node to.at to.out.now c.if-node-ne-LIST_VALUE.false asked.tag_in_bounds asked.node_in_bounds in
    record { start_in_bounds = fits.0; start_in_bounds_2 = fits.1 }

pub returns : goal.returns
returns c =
    let to = c.args in
    let if1 = c.if-node-ne-LIST_VALUE in
    node_put to.payload.now to.w.now to.text to.node _ _ _ _ if1.false c.put_list.ensures
