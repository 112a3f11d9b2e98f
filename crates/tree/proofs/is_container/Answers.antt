-- `tree::is_container` meets its contract.
use mathlib.Core.Path.{sym, ◌∙◌}
use native.Mathlib.Omega.{arith}
use borrow.Author.Tests.{not-true, not-false}
use mathlib.Core.Path.{◌≡◌}
use mathlib.Core.List.{[]}
use Rattle.image.specs.Sections.{node_word, inside}
use Rattle.image.proofs.Widths.{words-some}
use Rattle.tree.specs.Parts.{parts_of}
use Rattle.tree.proofs.Tests.{inside_is, inside-below, outside-container, tag_container}
use Rattle.tree.proofs.is_container.Goals as goal

pub returns-then-not-is_inside : goal.returns-then-not-is_inside
returns-then-not-is_inside c =
    let there : let at = c.args in c.is_inside.result ≡ inside (parts_of at.version at.nodes.now [] [] []) at.node = inside_is _ _ _ _ _ c.node_count.ensures c.is_inside.ensures in
    sym (outside-container _ _ _ (sym there ∙ not-true _ c.if-not-is_inside.true-raw))

pub node_word-requires : goal.node_word-requires
node_word-requires c =
    let there : let at = c.args in c.is_inside.result ≡ inside (parts_of at.version at.nodes.now [] [] []) at.node = inside_is _ _ _ _ _ c.node_count.ensures c.is_inside.ensures in
    (inside-below _ _ _ (sym there ∙ not-false _ c.if-not-is_inside.false-raw), omega (arith, words-some c.args.version))

pub returns : goal.returns
unfolding node_word
returns c =
    let there : let at = c.args in c.is_inside.result ≡ inside (parts_of at.version at.nodes.now [] [] []) at.node = inside_is _ _ _ _ _ c.node_count.ensures c.is_inside.ensures in
    sym (tag_container _ _ _ _ (sym there ∙ not-false _ c.if-not-is_inside.false-raw) c.node_word.ensures)
