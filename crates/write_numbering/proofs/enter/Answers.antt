-- `write_numbering::enter` meets its contract.
use mathlib.Core.Path.{refl}
use native.Mathlib.Omega.{arith}
use Rattle.image.proofs.Entries.{IsNode, read-node}
use Rattle.write_numbering.specs.Work.{tree_of}
use Rattle.write_numbering.proofs.Pushes.{enter-leaf, enter-pushed, children-pushed, Room, room}
use Rattle.write_numbering.proofs.enter.Goals.{After-node_at-node, Else-node-ne-CONTAINER}
use Rattle.write_numbering.proofs.enter.Goals as goal

node_is : (c : After-node_at-node) → IsNode (tree_of c.args.source.version c.args.nodes.now c.args.children.now c.args.named.now) c.args.id c.node_at-node.result
node_is c = read-node _ _ _ _ _ refl refl c.node_at-node.ensures

-- a container has words for its entries
room_of : (c : Else-node-ne-CONTAINER) → Room (tree_of c.args.source.version c.args.nodes.now c.args.children.now c.args.named.now) c.args.id c.args.base c.args.depth c.args.work.now c.node_at-node.result (read-node _ _ _ _ _ refl refl c.node_at-node.ensures) c.if-node-ne-CONTAINER.false
room_of c = room _ _ _ _ _ _ _ _ c.requires.0 c.requires.1 c.requires.2

pub node_at-node-requires : goal.node_at-node-requires
node_at-node-requires c = c.requires.1

pub returns-then-node-ne-CONTAINER : goal.returns-then-node-ne-CONTAINER
returns-then-node-ne-CONTAINER c =
    enter-leaf _ _ _ _ _ _ (node_is (goal.at.returns-then-node-ne-CONTAINER c).After-node_at-node) c.if-node-ne-CONTAINER.true

pub push_entries-requires : goal.push_entries-requires
push_entries-requires c =
    let r = room_of (goal.at.push_entries-requires c).Else-node-ne-CONTAINER in
    record { entries_in_bounds = (omega arith, omega (arith, r.named)); room = omega (arith, r.words) }

pub overflow_add-top : goal.overflow_add-top
overflow_add-top c = omega (arith, (room_of (goal.at.overflow_add-top c).Else-node-ne-CONTAINER).words)

pub push_entries-requires-2 : goal.push_entries-requires-2
push_entries-requires-2 c =
    let r = room_of (goal.at.push_entries-requires-2 c).Else-node-ne-CONTAINER in
    record { entries_in_bounds = (omega arith, omega (arith, r.children)); room = omega (arith, r.words, c.push_entries.auto.work) }

pub overflow_add-result : goal.overflow_add-result
overflow_add-result c = omega (arith, (room_of (goal.at.overflow_add-result c).Else-node-ne-CONTAINER).words)

pub returns : goal.returns
returns c =
    enter-pushed _ _ _ _ _ _ (node_is (goal.at.returns c).After-node_at-node) c.if-node-ne-CONTAINER.false _ _ c.push_entries.ensures (children-pushed _ _ _ _ _ _ _ c.push_entries-2.ensures)
