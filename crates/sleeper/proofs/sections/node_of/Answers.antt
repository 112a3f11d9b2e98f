-- `sleeper::sections::node_of` meets its contract.
use Rattle.views.proofs.Reading.{node-none, node-read, node-below}
use Rattle.sleeper.proofs.SectionPlaces.{nodes-there, nodes-counted}
use Rattle.sleeper.proofs.sections.node_of.Goals as goal

pub part-nodes-requires : goal.part-nodes-requires
part-nodes-requires c = rw c.node_size.ensures c.requires

pub returns-then-not-is_inside : goal.returns-then-not-is_inside
returns-then-not-is_inside c =
    let nodes = c in
    let size = nodes.node_size.ensures in
    let view = nodes.args.view in
    node-none _ view _ (nodes-there _ view _ size _ nodes.part-nodes.ensures) _ _ (nodes-counted _ view _ size _ nodes.part-nodes.ensures nodes.requires) _ c.is_inside.ensures c.if-not-is_inside.true-raw

pub node_record-requires : goal.node_record-requires
node_record-requires c =
    let nodes = c in
    let size = nodes.node_size.ensures in
    let view = nodes.args.view in
    node-below _ view _ (nodes-there _ view _ size _ nodes.part-nodes.ensures) _ _ (nodes-counted _ view _ size _ nodes.part-nodes.ensures nodes.requires) _ c.is_inside.ensures c.if-not-is_inside.false-raw

pub returns : goal.returns
returns c =
    let nodes = c in
    let size = nodes.node_size.ensures in
    let view = nodes.args.view in
    node-read _ view _ (nodes-there _ view _ size _ nodes.part-nodes.ensures) _ _ (nodes-counted _ view _ size _ nodes.part-nodes.ensures nodes.requires) _ c.is_inside.ensures c.if-not-is_inside.false-raw _ c.node_record.ensures
