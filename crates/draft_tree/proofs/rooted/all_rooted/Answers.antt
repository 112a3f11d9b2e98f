-- `draft_tree::rooted::all_rooted` meets its contract.
use mathlib.Core.Path.{refl, sym, ◌∙◌}
use mathlib.Core.Bool.{true≢false}
use native.Mathlib.Omega.{arith}
use lib.ListN.{length-set}
use borrow.Author.Tests.{not-true, not-false}
use Rattle.words.specs.Words.{NONE}
use Rattle.draft.proofs.NodeCount.{below-count, past-count}
use Rattle.draft_tree.proofs.Climbs.{climbs-start, climbs-skip, climbs-next, climbs_end, open_above}
use Rattle.draft_tree.proofs.rooted.all_rooted.Goals as goal

pub returns-then-count : goal.returns-then-count
returns-then-count c = (
  λ q. absurd (true≢false (sym q)),
  λ x. absurd (omega (arith, x.0, below-count _ _ c.node_count-count.ensures NONE c.if-count.true)),
)

pub loop-i-init : goal.loop-i-init
loop-i-init c = climbs-start _ _ c.requires

pub is_open-requires : goal.is_open-requires
is_open-requires c =
    let inv = c.loop-i.invariant in
    let below = below-count _ _ c.node_count-count.ensures _ c.loop-i-test.true in
    (below, omega (arith, below, inv.can.enough))

pub climb-requires : goal.climb-requires
climb-requires c =
    let inv = c.loop-i.invariant in
    let count = c.node_count-count in
    let test = c.loop-i-test.true in
    let above = open_above _ _ _ _ inv (sym c.is_open.ensures ∙ c.if-is_open.true) in
    record {
      fact = (inv.can, below-count _ _ count.ensures _ test);
      i_nonzero = (above.1, omega (arith, test, c.if-count.false));
    }

pub shape_of-work-then-not-climb : goal.shape_of-work-then-not-climb
shape_of-work-then-not-climb c =
    c.climb.auto.work ∙ c.loop-i.invariant.long ∙ simp length-set

pub returns-then-not-climb : goal.returns-then-not-climb
returns-then-not-climb c =
    let inv = c.loop-i.invariant in
    let below = below-count _ _ c.node_count-count.ensures _ c.loop-i-test.true in
    let above = open_above _ _ _ _ inv (sym c.is_open.ensures ∙ c.if-is_open.true) in (
      λ q. absurd (true≢false (sym q)),
      λ x. absurd (c.climb.ensures.circle (not-true _ c.if-not-climb.true-raw) (x.1 _ below above.0)),
    )

pub loop-i-preserved : goal.loop-i-preserved
loop-i-preserved c =
    let inv = c.loop-i.invariant in
    let below = below-count _ _ c.node_count-count.ensures _ c.loop-i-test.true in
    elim c.if-is_open.branch [
      | goal.then-is_open+else-not-climb w ↦ rw w.work-is (climbs-next _ _ _ _ inv below _ (w.climb.ensures.rooted (not-false _ w.if-not-climb.false-raw)))
      | goal.else-is_open w ↦ rw w.work-is (climbs-skip _ _ _ _ inv below (sym c.is_open.ensures ∙ w.if-is_open.false))
    ]

pub shape_of-work : goal.shape_of-work
shape_of-work c = c.loop-i.invariant.long ∙ simp length-set

pub returns : goal.returns
returns c =
    let count = c.node_count-count.ensures in (
      λ q. (past-count _ _ count NONE c.if-count.false, climbs_end _ _ _ _ c.loop-i.invariant (past-count _ _ count _ c.loop-i-test.false)),
      λ x. refl,
    )
