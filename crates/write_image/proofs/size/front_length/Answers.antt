-- `write_image::size::front_length` meets its contract.
use Prim.Native.Nat.{◌+◌, ◌*◌}
use native.Mathlib.Omega.{arith}
use Rattle.image.specs.Header.{header_length}
use Rattle.image.proofs.Widths.{width}
use Rattle.write_image.proofs.CappedSums.{capped_le, adds}
use Rattle.image.specs.Sections.{node_size, child_size, text_entry_size, definition_size}
use Rattle.write_image.proofs.size.front_length.Goals as goal

pub overflow_mul-node_words : goal.overflow_mul-node_words
overflow_mul-node_words c = omega (arith, c.node_words.ensures, (width c.args.source.version).most)

pub add-nodes-requires : goal.add-nodes-requires
add-nodes-requires c =
    let wide = width c.args.source.version in
    (omega arith, omega (arith, c.node_words.ensures, wide.least), omega (arith, c.node_words.ensures, wide.most))

pub add-children-requires : goal.add-children-requires
add-children-requires c = (capped_le _ _ c.add-nodes.ensures, omega arith, omega arith)

pub add-named-requires : goal.add-named-requires
add-named-requires c = (capped_le _ _ c.add-children.ensures, omega arith, omega arith)

pub add-requires : goal.add-requires
add-requires c = (capped_le _ _ c.add-named.ensures, omega arith, omega arith)

pub returns : goal.returns
returns c =
    let source = c.args.source in
    let e = c.args.counts in
    let nodes = rw c.node_words.ensures at c.add-nodes.ensures in
    let children = adds _ _ (header_length + e.nodes * node_size source.version) (e.children * child_size) c.add-children.ensures nodes in
    let named = adds _ _ (header_length + e.nodes * node_size source.version + e.children * child_size) (e.named * text_entry_size) c.add-named.ensures children in
    adds _ _ (header_length + e.nodes * node_size source.version + e.children * child_size + e.named * text_entry_size) (e.definitions * definition_size) c.add.ensures named
