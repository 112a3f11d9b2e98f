-- `draft_walks::node_of` meets its contract.
use Rattle.std.specs.Prelude.{Some}
use mathlib.Core.Path.{refl, ap, ◌∙◌}
use borrow.Author.Tests.{not-false}
use Rattle.laws.proofs.Cases.{flag-not_yes, flag-not_no}
use Rattle.image.proofs.Entries.{node_record}
use Rattle.draft.proofs.NodeCount.{among-count, among_below}
use Rattle.views.specs.Found.{node_found}
use Rattle.draft_walks.specs.Walked.{walked}
use Rattle.draft_walks.proofs.node_of.Goals as goal

pub returns-then-not-is_inside : goal.returns-then-not-is_inside
unfolding node_found
returns-then-not-is_inside c = λ children named strings. flag-not_no _ _ _ _ _ (among-count _ _ c.node_count.ensures _ _ c.is_inside.ensures) c.if-not-is_inside.true-raw refl

pub node_at-requires : goal.node_at-requires
node_at-requires c = among_below _ _ c.node_count.ensures _ _ c.is_inside.ensures (not-false _ c.if-not-is_inside.false-raw)

pub returns : goal.returns
unfolding node_found
returns c = λ children named strings.
    let at = c in
    let to = at.args in
    flag-not_yes _ _ _ _ _ (among-count _ _ at.node_count.ensures _ _ at.is_inside.ensures) c.if-not-is_inside.false-raw
    (ap Some (c.node_at.ensures ∙ node_record (walked to.source.version to.nodes.now children named strings) to.source.version to.nodes.now to.id refl refl))
