-- `load::nodes::tag_at` meets its contract.
use mathlib.Core.Path.{refl}
use native.Mathlib.Omega.{arith}
use Rattle.image.proofs.Widths.{words-some}
use Rattle.load.proofs.SectionReads.{tag_outside, tag_inside, inside-below}
use Rattle.load.proofs.nodes.tag_at.Goals as goal

pub node_word-requires : goal.node_word-requires
node_word-requires c = (
  inside-below _ _ _ _ c.node_count.ensures c.is_inside.ensures c.if-is_inside.true,
  omega (arith, words-some c.args.version),
)

pub returns-then-is_inside : goal.returns-then-is_inside
returns-then-is_inside c =
    tag_inside _ _ _ _ refl refl _ c.node_count.ensures _ c.is_inside.ensures _ c.if-is_inside.true
    c.node_word.ensures

pub returns-else-is_inside : goal.returns-else-is_inside
returns-else-is_inside c =
    tag_outside _ _ _ _ refl refl _ c.node_count.ensures _ c.is_inside.ensures c.if-is_inside.false
