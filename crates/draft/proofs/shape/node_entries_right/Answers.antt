-- `draft::shape::node_entries_right` meets its contract.
use mathlib.Core.List.{[]}
use Rattle.draft.proofs.NodeTable.{node_is}
use Rattle.draft.proofs.Relations.{plain-node, children-range, named-range, wrong-children, by_named}
use Rattle.draft.proofs.shape.node_entries_right.Goals as goal

pub returns-then-node-ne-CONTAINER : goal.returns-then-node-ne-CONTAINER
returns-then-node-ne-CONTAINER c =
    let to = c in
    let node = node_is _ to.args.nodes.now to.args.children.now to.args.named.now [] [] [] to.args.strings.now _ _ to.requires.node_value in
    plain-node _ _ _ _ to.requires.fact.0 _ to.requires.fact.1 _ node c.if-node-ne-CONTAINER.true

pub right_children-requires : goal.right_children-requires
right_children-requires c =
    let to = c in
    let node = node_is _ to.args.nodes.now to.args.children.now to.args.named.now [] [] [] to.args.strings.now _ _ to.requires.node_value in
    children-range _ _ _ _ to.requires.fact.0 _ to.requires.fact.1 _ node c.if-node-ne-CONTAINER.false

pub returns-then-not-right_children : goal.returns-then-not-right_children
returns-then-not-right_children c =
    let to = c in
    let node = node_is _ to.args.nodes.now to.args.children.now to.args.named.now [] [] [] to.args.strings.now _ _ to.requires.node_value in
    wrong-children _ _ _ _ to.requires.fact.0 _ to.requires.fact.1 _ node c.if-node-ne-CONTAINER.false _ c.right_children.ensures c.if-not-right_children.true-raw

pub right_entries-requires : goal.right_entries-requires
right_entries-requires c =
    let to = c in
    let node = node_is _ to.args.nodes.now to.args.children.now to.args.named.now [] [] [] to.args.strings.now _ _ to.requires.node_value in
    named-range _ _ _ _ to.requires.fact.0 _ to.requires.fact.1 _ node c.if-node-ne-CONTAINER.false

pub returns : goal.returns
returns c =
    let to = c in
    let node = node_is _ to.args.nodes.now to.args.children.now to.args.named.now [] [] [] to.args.strings.now _ _ to.requires.node_value in
    by_named _ _ _ _ to.requires.fact.0 _ to.requires.fact.1 _ node c.if-node-ne-CONTAINER.false _ c.right_children.ensures c.if-not-right_children.false-raw _ c.right_entries.ensures
