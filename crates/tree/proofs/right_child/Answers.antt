-- `tree::right_child` meets its contract.
use mathlib.Core.Path.{◌≡◌, sym, ◌∙◌}
use mathlib.Core.List.{[]}
use native.Mathlib.Omega.{arith}
use borrow.Author.Tests.{not-true, not-false}
use Rattle.image.specs.Sections.{node_word, inside}
use Rattle.image.proofs.Widths.{words-some}
use Rattle.tree.specs.Parts.{parts_of}
use Rattle.tree.proofs.Tests.{inside_is, inside-below, outside-child, astray_child, place-child}
use Rattle.tree.proofs.right_child.Goals as goal

pub returns-then-not-is_inside : goal.returns-then-not-is_inside
returns-then-not-is_inside c =
    let there : let at = c.args in c.is_inside.result ≡ inside (parts_of at.version at.nodes.now [] [] []) at.child = inside_is _ _ _ _ _ c.node_count.ensures c.is_inside.ensures in
    sym (outside-child _ _ _ _ _ (sym there ∙ not-true _ c.if-not-is_inside.true-raw))

pub node_word-requires : goal.node_word-requires
node_word-requires c =
    let there : let at = c.args in c.is_inside.result ≡ inside (parts_of at.version at.nodes.now [] [] []) at.child = inside_is _ _ _ _ _ c.node_count.ensures c.is_inside.ensures in
    (inside-below _ _ _ (sym there ∙ not-false _ c.if-not-is_inside.false-raw), omega (arith, words-some c.args.version))

pub returns-then-node_word-id : goal.returns-then-node_word-id
unfolding node_word
returns-then-node_word-id c =
    let there : let at = c.args in c.is_inside.result ≡ inside (parts_of at.version at.nodes.now [] [] []) at.child = inside_is _ _ _ _ _ c.node_count.ensures c.is_inside.ensures in
    sym (astray_child _ _ _ _ _ _ (sym there ∙ not-false _ c.if-not-is_inside.false-raw) c.node_word.ensures c.if-node_word-id.true)

pub node_word-requires-2 : goal.node_word-requires-2
node_word-requires-2 c =
    let there : let at = c.args in c.is_inside.result ≡ inside (parts_of at.version at.nodes.now [] [] []) at.child = inside_is _ _ _ _ _ c.node_count.ensures c.is_inside.ensures in
    (inside-below _ _ _ (sym there ∙ not-false _ c.if-not-is_inside.false-raw), omega (arith, words-some c.args.version))

pub returns : goal.returns
unfolding node_word
returns c =
    let there : let at = c.args in c.is_inside.result ≡ inside (parts_of at.version at.nodes.now [] [] []) at.child = inside_is _ _ _ _ _ c.node_count.ensures c.is_inside.ensures in
    sym
    (place-child _ _ _ _ _ _ (sym there ∙ not-false _ c.if-not-is_inside.false-raw) c.node_word.ensures _
    c.if-node_word-id.false c.node_word-2.ensures)
