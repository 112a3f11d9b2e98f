-- `views::entries::node_of` meets its contract.
use Rattle.views.proofs.Reading.{node-none, node-read, node-below}
use Rattle.views.proofs.entries.node_of.Goals as goal

pub returns-then-not-is_inside : goal.returns-then-not-is_inside
returns-then-not-is_inside c =
    node-none _ _ _ c.nodes_part-nodes.ensures _ _ c.node_count.ensures _ c.is_inside.ensures c.if-not-is_inside.true-raw

pub node_record-requires : goal.node_record-requires
node_record-requires c =
    node-below _ c.args.view _ c.nodes_part-nodes.ensures _ _ c.node_count.ensures _ c.is_inside.ensures c.if-not-is_inside.false-raw

pub returns : goal.returns
returns c =
    node-read _ _ _ c.nodes_part-nodes.ensures _ _ c.node_count.ensures _
    c.is_inside.ensures c.if-not-is_inside.false-raw _ c.node_record.ensures
