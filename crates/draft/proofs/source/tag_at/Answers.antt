-- `draft::source::tag_at` meets its contract.
use mathlib.Core.Path.{refl}
use native.Mathlib.Omega.{arith}
use Rattle.laws.proofs.Cases.{flag_yes, flag_no}
use Rattle.image.specs.Sections.{node_word}
use Rattle.records.specs.Shown.{tag_in}
use Rattle.image.proofs.Widths.{words-some}
use Rattle.draft.proofs.NodeCount.{among-count, among_below}
use Rattle.draft.proofs.source.tag_at.Goals as goal

pub node_word-requires : goal.node_word-requires
node_word-requires c = (
  among_below _ _ c.node_count.ensures _ _ c.is_inside.ensures c.if-is_inside.true,
  omega (arith, words-some c.args.source.version),
)

pub returns-then-is_inside : goal.returns-then-is_inside
unfolding tag_in node_word
returns-then-is_inside c =
    let at = c in
    flag_yes _ _ _ _ _ (among-count _ _ at.node_count.ensures _ _ at.is_inside.ensures) c.if-is_inside.true c.node_word.ensures

pub returns-else-is_inside : goal.returns-else-is_inside
unfolding tag_in
returns-else-is_inside c = flag_no _ _ _ _ _ (among-count _ _ c.node_count.ensures _ _ c.is_inside.ensures) c.if-is_inside.false refl
