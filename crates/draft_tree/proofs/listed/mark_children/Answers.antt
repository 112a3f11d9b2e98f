-- `draft_tree::listed::mark_children` meets its contract. The invariant: the first children are marked.
use Prim.Native.Nat.{ℕ, ◌<◌}
use native.Mathlib.Omega.{arith}
use mathlib.Core.Path.{◌≡◌, refl, subst}
use lib.ListN.{length, get_or}
use Rattle.draft_tree.specs.Standing.{MarkedAmong}
use Rattle.draft_tree.proofs.Marks.{none-marked, one_marked}
use borrow.Author.Rules.{rules}
use Rattle.draft_tree.proofs.listed.mark_children.Goals as goal

pub loop-child-init : goal.loop-child-init
loop-child-init c = (refl, none-marked _ _)

pub bounds-work-child : goal.bounds-work-child
bounds-work-child c = omega (arith, c.requires c.loop-child.child-index c.loop-child-test.true, c.loop-child.invariant.0)

pub loop-child-preserved : goal.loop-child-preserved
loop-child-preserved c =
    let low : get_or c.args.children.now c.loop-child.child-index 0 < length c.loop-child.work =
    omega (arith, c.requires c.loop-child.child-index c.loop-child-test.true, c.loop-child.invariant.0) in
    let more = one_marked _ _ _ _ c.loop-child.invariant.1 _ _ refl refl low in
    (more.long, more)

pub returns : goal.returns
returns c =
    let to = c.args in
    let e : c.loop-child.child-index ≡ length to.children.now = omega (arith, c.loop-child.auto.child-index-end) in
    subst (λ (n : ℕ). MarkedAmong n (λ k. get_or to.children.now k 0) to.work.now c.loop-child.work) e c.loop-child.invariant.1
