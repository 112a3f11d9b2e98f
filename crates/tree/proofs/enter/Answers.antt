-- `tree::enter` meets its contract.
use mathlib.Core.Path.{◌≡◌, refl, sym}
use Prim.Native.Nat.{◌+◌, ◌<◌, ◌^◌}
use native.Mathlib.Omega.{arith}
use Rattle.image.specs.Sections.{Sections}
use Rattle.image.proofs.Entries.{IsNode, read-node}
use Rattle.tree.specs.Parts.{parts_of}
use Rattle.image.proofs.Refused.{refused-alike, some-refused, none-refused}
use Rattle.tree.proofs.NodeTurn.{any-depth, enter-leaf, enter-refused, enter-pushed, leaf, container, Room, room}
use Rattle.tree.proofs.enter.Goals as goal

pub node_record-node-requires : goal.node_record-node-requires
node_record-node-requires c = c.requires.id_bound

pub returns-then-node-ne-CONTAINER : goal.returns-then-node-ne-CONTAINER
returns-then-node-ne-CONTAINER c =
    let Parts : Sections = parts_of c.args.version c.args.nodes.now c.args.children.now c.args.named.now c.args.strings.now in
    let node_is : IsNode Parts c.args.id c.node_record-node.result = read-node _ _ _ _ _ refl refl c.node_record-node.ensures in
    enter-leaf _ _ _ _ _ _ _ _ _ (leaf _ _ _ node_is c.if-node-ne-CONTAINER.true)

pub push_children-requires : goal.push_children-requires
push_children-requires c =
    let Parts : Sections = parts_of c.args.version c.args.nodes.now c.args.children.now c.args.named.now c.args.strings.now in
    let node_is : IsNode Parts c.args.id c.node_record-node.result = read-node _ _ _ _ _ refl refl c.node_record-node.ensures in
    let room_of : c.node_record-node.result.tag ≡ 1
    → Room c.args.version c.args.nodes.now c.args.children.now c.args.named.now c.args.strings.now c.args.id c.args.base
    c.args.depth c.args.work.now c.node_record-node.result node_is = λ e. room _ _ _ _ _ _ _ _ _ _ node_is c.requires.fit c.requires.id_bound c.requires.id_in_bounds e in
    let r = room_of c.if-node-ne-CONTAINER.false in
    record {
      start_value = r.children-start;
      count_bound = (r.children, omega arith);
    }

pub returns-in_err-push_children : goal.returns-in_err-push_children
returns-in_err-push_children c =
    let Parts : Sections = parts_of c.args.version c.args.nodes.now c.args.children.now c.args.named.now c.args.strings.now in
    let node_is : IsNode Parts c.args.id c.node_record-node.result = read-node _ _ _ _ _ refl refl c.node_record-node.ensures in
    rw (refused-alike _ _ _ c.in_err-push_children.was c.from_residual.ensures.1)
    (enter-refused _ _ _ _ _ _ _ _ _ (container _ _ _ node_is c.if-node-ne-CONTAINER.false) _ node_is.f4 _ _
    c.push_children.ensures _ (some-refused _ _ c.in_err-push_children.was))

pub returns-in_err-push_named : goal.returns-in_err-push_named
returns-in_err-push_named c =
    let Parts : Sections = parts_of c.args.version c.args.nodes.now c.args.children.now c.args.named.now c.args.strings.now in
    let node_is : IsNode Parts c.args.id c.node_record-node.result = read-node _ _ _ _ _ refl refl c.node_record-node.ensures in
    rw (refused-alike _ _ _ c.in_err-push_named.was c.from_residual-in_err-push_named.ensures.1)
    (any-depth _ _ _ _ _ _ _ _
    (enter-pushed _ _ _ _ _ _ _ _ _ (container _ _ _ node_is c.if-node-ne-CONTAINER.false) _ node_is.f4 _ _
    c.push_children.ensures (none-refused _ _ c.in_ok-push_children.was) _ node_is.f6 _ _ _ c.push_named.ensures refl)
    (some-refused _ _ c.in_err-push_named.was) _)

pub overflow_add-top : goal.overflow_add-top
overflow_add-top c =
    let Parts : Sections = parts_of c.args.version c.args.nodes.now c.args.children.now c.args.named.now c.args.strings.now in
    let node_is : IsNode Parts c.args.id c.node_record-node.result = read-node _ _ _ _ _ refl refl c.node_record-node.ensures in
    let room_of : c.node_record-node.result.tag ≡ 1
    → Room c.args.version c.args.nodes.now c.args.children.now c.args.named.now c.args.strings.now c.args.id c.args.base
    c.args.depth c.args.work.now c.node_record-node.result node_is = λ e. room _ _ _ _ _ _ _ _ _ _ node_is c.requires.fit c.requires.id_bound c.requires.id_in_bounds e in
    let fits : c.node_record-node.result.tag ≡ 1 → c.args.depth + c.node_record-node.result.f4 + c.node_record-node.result.f6 < 2 ^ 63 = λ e. omega (arith, (room_of e).words) in
    omega (arith, fits c.if-node-ne-CONTAINER.false)

pub push_named-requires : goal.push_named-requires
push_named-requires c =
    let Parts : Sections = parts_of c.args.version c.args.nodes.now c.args.children.now c.args.named.now c.args.strings.now in
    let node_is : IsNode Parts c.args.id c.node_record-node.result = read-node _ _ _ _ _ refl refl c.node_record-node.ensures in
    let room_of : c.node_record-node.result.tag ≡ 1
    → Room c.args.version c.args.nodes.now c.args.children.now c.args.named.now c.args.strings.now c.args.id c.args.base
    c.args.depth c.args.work.now c.node_record-node.result node_is = λ e. room _ _ _ _ _ _ _ _ _ _ node_is c.requires.fit c.requires.id_bound c.requires.id_in_bounds e in
    let r = room_of c.if-node-ne-CONTAINER.false in
    record {
      start_value = r.named_start;
      count_bound = (r.named, omega arith);
    }

pub overflow_add-result : goal.overflow_add-result
overflow_add-result c =
    let Parts : Sections = parts_of c.args.version c.args.nodes.now c.args.children.now c.args.named.now c.args.strings.now in
    let node_is : IsNode Parts c.args.id c.node_record-node.result = read-node _ _ _ _ _ refl refl c.node_record-node.ensures in
    let room_of : c.node_record-node.result.tag ≡ 1
    → Room c.args.version c.args.nodes.now c.args.children.now c.args.named.now c.args.strings.now c.args.id c.args.base
    c.args.depth c.args.work.now c.node_record-node.result node_is = λ e. room _ _ _ _ _ _ _ _ _ _ node_is c.requires.fit c.requires.id_bound c.requires.id_in_bounds e in
    let fits : c.node_record-node.result.tag ≡ 1 → c.args.depth + c.node_record-node.result.f4 + c.node_record-node.result.f6 < 2 ^ 63 = λ e. omega (arith, (room_of e).words) in
    omega (arith, fits c.if-node-ne-CONTAINER.false)

pub returns : goal.returns
returns c =
    let Parts : Sections = parts_of c.args.version c.args.nodes.now c.args.children.now c.args.named.now c.args.strings.now in
    let node_is : IsNode Parts c.args.id c.node_record-node.result = read-node _ _ _ _ _ refl refl c.node_record-node.ensures in
    rw (sym (none-refused _ _ c.in_ok-push_named.was))
    (enter-pushed _ _ _ _ _ _ _ _ _ (container _ _ _ node_is c.if-node-ne-CONTAINER.false) _ node_is.f4 _ _
    c.push_children.ensures (none-refused _ _ c.in_ok-push_children.was) _ node_is.f6 _ _ _
    c.push_named.ensures refl)
