-- `draft_tree::rooted::climb` meets its contract. The measure: how many words are still 1.
use mathlib.Core.Path.{refl}
use native.Mathlib.Omega.{arith}
use Rattle.image.specs.Sections.{node_word}
use Rattle.image.proofs.Widths.{words-some}
use Rattle.draft_tree.proofs.Climbs.{climb-start, climb-less, climb-answer, climb-next}
use Rattle.draft_tree.proofs.rooted.climb.Goals as goal

pub loop-work-init : goal.loop-work-init
loop-work-init c = let to = c in climb-start _ _ _ to.requires.fact.0 to.requires.i_nonzero.0 to.requires.fact.1

pub node_word-at-requires : goal.node_word-at-requires
node_word-at-requires c =
    let to = c in
    (c.loop-work.invariant.inside, omega (arith, words-some to.args.source.version))

pub loop-work-smaller : goal.loop-work-smaller
loop-work-smaller c =
    let to = c in
    omega (arith, climb-less _ _ _ to.requires.fact.0 to.requires.i_nonzero.0 _ _ c.loop-work.invariant c.loop-work-test.true)

pub loop-work-preserved : goal.loop-work-preserved
unfolding node_word
loop-work-preserved c =
    let to = c in
    climb-next _ _ _ to.requires.fact.0 to.requires.i_nonzero.0 _ _ c.loop-work.invariant c.loop-work-test.true _ c.node_word-at.ensures

pub returns : goal.returns
returns c =
    let to = c in
    let left = c in
    climb-answer _ _ _ to.requires.fact.0 to.requires.i_nonzero.0 _ _ left.loop-work.invariant to.requires.fact.1 left.loop-work-test.false _ refl
