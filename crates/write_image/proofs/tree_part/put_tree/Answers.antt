-- `write_image::tree_part::put_tree` meets its contract.
use mathlib.Core.Path.{◌≡◌, refl}
use Prim.Native.Nat.{◌+◌, ◌*◌, ◌≤◌}
use native.Mathlib.Omega.{arith}
use lib.ListN.{length}
use Rattle.image.specs.Sections.{child_size}
use Rattle.image.specs.Encoding.{section_out}
use Rattle.draft.specs.Source.{draft_of}
use Rattle.draft_image.specs.Written.{written}
use Rattle.write_image.proofs.Premises.{tree-room, nodes_fit, order-fits, children_sum, named_sum, named_fit, named-length, texts_end, measured, nodes_put, children_put, named_put}
use Rattle.write_image.proofs.SectionLayers.{three-parts}
use Rattle.write_image.proofs.tree_part.put_tree.Goals as goal

pub put_nodes-text-requires : goal.put_nodes-text-requires
put_nodes-text-requires c = let r = c.requires in
    record {
      nodes_fit = nodes_fit _ _ _ _ _ _ _ _ _ _ r.told;
      version_in_bounds = omega (arith, tree-room _ _ _ _ _ _ _ _ r);
    }

pub nodes_length-at_children-requires : goal.nodes_length-at_children-requires
nodes_length-at_children-requires c =
    let room = tree-room _ _ _ _ _ _ _ _ c.requires in
    rw c.node_count.ensures (omega (arith, room))

pub slice_bounds-put_children-count : goal.slice_bounds-put_children-count
slice_bounds-put_children-count c =
    let room = tree-room _ _ _ _ _ _ _ _ c.requires in
    let bytes = rw c.node_count.ensures at c.nodes_length-at_children.ensures in
    omega (arith, room, bytes)

pub slice_bounds-put_children-start : goal.slice_bounds-put_children-start
slice_bounds-put_children-start c =
    let room = tree-room _ _ _ _ _ _ _ _ c.requires in
    let bytes = rw c.node_count.ensures at c.nodes_length-at_children.ensures in
    omega (arith, room, bytes)

pub put_children-requires : goal.put_children-requires
put_children-requires c =
    let r = c.requires in
    record {
      order_fits = order-fits _ _ _ _ _ _ _ _ _ _ r.told;
      count_in_bounds = omega (arith, rw c.node_count.ensures at c.nodes_length-at_children.ensures, tree-room _ _ _ _ _ _ _ _ r, children_sum _ _ _ _ _ _ _ _ _ _ r.told);
    }

pub overflow_add-at_named : goal.overflow_add-at_named
overflow_add-at_named c =
    let room = tree-room _ _ _ _ _ _ _ _ c.requires in
    let bytes = rw c.node_count.ensures at c.nodes_length-at_children.ensures in
    omega (arith, room, bytes)

pub slice_bounds-put_named-count : goal.slice_bounds-put_named-count
slice_bounds-put_named-count c =
    let room = tree-room _ _ _ _ _ _ _ _ c.requires in
    let bytes = rw c.node_count.ensures at c.nodes_length-at_children.ensures in
    omega (arith, room, bytes)

pub slice_bounds-put_named-start : goal.slice_bounds-put_named-start
slice_bounds-put_named-start c =
    let room = tree-room _ _ _ _ _ _ _ _ c.requires in
    let bytes = rw c.node_count.ensures at c.nodes_length-at_children.ensures in
    omega (arith, room, bytes)

pub put_named-requires : goal.put_named-requires
put_named-requires c =
    let r = c.requires in
    let text = (nodes_put _ _ _ _ _ _ _ _ _ _ _ _ r.told _ c.put_nodes-text.ensures).1 in
    record {
      named_fit = named_fit _ _ _ _ _ _ _ _ _ _ r.told _ text;
      count_in_bounds = omega (arith, rw c.node_count.ensures at c.nodes_length-at_children.ensures, tree-room _ _ _ _ _ _ _ _ r, named_sum _ _ _ _ _ _ _ _ _ _ r.told);
    }

pub overflow_add-result : goal.overflow_add-result
overflow_add-result c =
    let r = c.requires in
    let text = (nodes_put _ _ _ _ _ _ _ _ _ _ _ _ r.told _ c.put_nodes-text.ensures).1 in
    omega (arith, text, texts_end _ _ _ r.told, named-length _ _ _ r.told, c.well_formed.1.1.1.1.0)

pub returns : goal.returns
returns c = λ definitions items strings t.
    let a = c.args in
    let m = measured _ _ _ t in
    let v = section_out (written (draft_of a.source.version a.nodes.now a.children.now a.named.now definitions items a.payload.now strings)) in
    let room = tree-room _ _ _ _ _ _ _ _ c.requires in
    let fits : length (v 0) + length (v 1) + length (v 2) ≤ length a.out.now = omega (arith, m.nodes, m.children, m.named) in
    let node-count = c.node_count in
    let nodes-length = c.nodes_length-at_children in
    let bytes = rw node-count.ensures at nodes-length.ensures in
    let at-children : nodes-length.result ≡ length (v 0) = omega (arith, m.nodes, bytes) in
    let at_named : nodes-length.result + length a.children.now * child_size ≡ length (v 0) + length (v 1) = omega (arith, m.nodes, m.children, bytes) in
    let first = nodes_put _ _ _ _ _ _ _ _ _ _ _ _ t _ c.put_nodes-text.ensures in
    let second = children_put _ _ _ _ _ _ _ _ _ _ _ _ t c.put_children.ensures in
    let third = named_put _ _ _ _ _ _ _ _ _ _ _ _ t _ first.1 c.put_named.ensures in
    (three-parts a.out.now _ _ (v 0) (v 1) (v 2) _ _ _ _ fits first.0 at-children second refl at_named third, omega (arith, first.1, named-length _ _ _ t))
