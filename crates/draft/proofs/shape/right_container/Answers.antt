-- `draft::shape::right_container` meets its contract.
use native.Mathlib.Omega.{arith}
use Rattle.image.proofs.Widths.{words-some}
use Rattle.draft.proofs.Relations.{no_container_lem, its_container, container-there}
use Rattle.draft.proofs.shape.right_container.Goals as goal

pub returns-then-tag_at-ne-CONTAINER : goal.returns-then-tag_at-ne-CONTAINER
returns-then-tag_at-ne-CONTAINER c = no_container_lem _ _ _ _ _ c.tag_at.ensures c.if-tag_at-ne-CONTAINER.true

pub node_word-requires : goal.node_word-requires
node_word-requires c = (
  container-there _ _ _ 0 _ c.tag_at.ensures c.if-tag_at-ne-CONTAINER.false,
  omega (arith, words-some c.args.source.version),
)

pub returns : goal.returns
returns c = its_container _ _ _ _ _ c.tag_at.ensures c.if-tag_at-ne-CONTAINER.false _ c.node_word.ensures
