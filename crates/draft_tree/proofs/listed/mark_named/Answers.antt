-- `draft_tree::listed::mark_named` meets its contract. The invariant: the nodes of the first entries are marked.
use Prim.Native.Nat.{ℕ, ◌+◌, ◌*◌, ◌/◌, ◌<◌}
use native.Mathlib.Omega.{arith}
use mathlib.Core.Path.{◌≡◌, refl, subst}
use lib.ListN.{length, get_or}
use Rattle.image.specs.Sections.{text_entry_words}
use Rattle.draft_tree.specs.Standing.{MarkedAmong}
use Rattle.draft_tree.proofs.Marks.{none-marked, one_marked}
use borrow.Author.Rules.{rules}
use Rattle.draft_tree.proofs.listed.mark_named.Goals as goal

pub loop-j-init : goal.loop-j-init
loop-j-init c = (search rules, refl, none-marked _ _)

pub overflow_cast-work : goal.overflow_cast-work
overflow_cast-work c = omega (arith, c.shared_slice_known-1.given (c.loop-j.j * text_entry_words + 2))

pub offset_bounds-work-named : goal.offset_bounds-work-named
offset_bounds-work-named c = omega (arith, c.shared_slice_known-1.given (c.loop-j.j * text_entry_words + 2))

pub bounds-work-named : goal.bounds-work-named
bounds-work-named c = omega (arith, c.requires c.loop-j.j c.loop-j-test.true, c.loop-j.invariant.1)

pub loop-j-preserved : goal.loop-j-preserved
loop-j-preserved c =
    let low : get_or c.args.named.now (c.loop-j.j * text_entry_words + 2) 0 < length c.loop-j.work = omega (arith, c.requires c.loop-j.j c.loop-j-test.true, c.loop-j.invariant.1) in
    let more = one_marked _ _ _ _ c.loop-j.invariant.2 _ _ refl refl low in
    (search rules, more.long, more)

pub returns : goal.returns
returns c =
    let to = c.args in
    let e : c.loop-j.j ≡ length to.named.now / text_entry_words = omega arith in
    subst (λ (n : ℕ). MarkedAmong n (λ k. get_or to.named.now (k * text_entry_words + 2) 0) to.work.now c.loop-j.work) e c.loop-j.invariant.2
