-- `draft::shape::right_child` meets its contract.
use native.Mathlib.Omega.{arith}
use borrow.Author.Tests.{not-false}
use Rattle.image.proofs.Widths.{words-some}
use Rattle.draft.proofs.NodeCount.{among-count, among_below}
use Rattle.draft.proofs.Relations.{child-outside, child_astray, child-placed}
use Rattle.draft.proofs.shape.right_child.Goals as goal

pub returns-then-not-is_inside : goal.returns-then-not-is_inside
returns-then-not-is_inside c =
    let to = c.args in
    let inside = among-count _ _ c.node_count.ensures _ _ c.is_inside.ensures in
    child-outside to.source.version to.nodes.now to.child to.id to.place _ inside c.if-not-is_inside.true-raw

pub node_word-requires : goal.node_word-requires
node_word-requires c = (
  among_below _ _ c.node_count.ensures _ _ c.is_inside.ensures (not-false _ c.if-not-is_inside.false-raw),
  omega (arith, words-some c.args.source.version),
)

pub returns-then-node_word-id : goal.returns-then-node_word-id
returns-then-node_word-id c =
    let at = c in
    let to = at.args in
    let inside = among-count _ _ at.node_count.ensures _ _ at.is_inside.ensures in
    child_astray to.source.version to.nodes.now to.child to.id to.place _ inside at.if-not-is_inside.false-raw _ c.node_word.ensures c.if-node_word-id.true

pub node_word-requires-2 : goal.node_word-requires-2
node_word-requires-2 c =
    let at = c in (
      among_below _ _ at.node_count.ensures _ _ at.is_inside.ensures (not-false _ at.if-not-is_inside.false-raw),
      omega (arith, words-some at.args.source.version),
    )

pub returns : goal.returns
returns c =
    let at = c in
    let to = at.args in
    let inside = among-count _ _ at.node_count.ensures _ _ at.is_inside.ensures in
    child-placed to.source.version to.nodes.now to.child to.id to.place _ inside at.if-not-is_inside.false-raw _ c.node_word.ensures c.if-node_word-id.false _ c.node_word-2.ensures
