-- `draft_tree::listed::all_ones` meets its contract. The invariant: the words before `i` are marked.
use native.Mathlib.Omega.{arith}
use mathlib.Core.Path.{refl, sym}
use mathlib.Core.Bool.{true≢false}
use Rattle.draft_tree.proofs.Marks.{ones-more, ones_all}
use borrow.Author.Rules.{rules}
use Rattle.draft_tree.proofs.listed.all_ones.Goals as goal

pub loop-i-init : goal.loop-i-init
loop-i-init c = (search rules, λ k h l. absurd (omega arith))

pub returns-then-work-i-ne-LISTED : goal.returns-then-work-i-ne-LISTED
returns-then-work-i-ne-LISTED c = (
  λ e. absurd (true≢false (sym e)),
  λ all. absurd (c.if-work-i-ne-LISTED.true (all c.loop-i.i c.loop-i.invariant.0 c.loop-i-test.true)),
)

pub loop-i-preserved : goal.loop-i-preserved
loop-i-preserved c = (search rules, ones-more c.args.work.now _ c.loop-i.invariant.1 c.if-work-i-ne-LISTED.false)

pub returns : goal.returns
returns c = (λ e. ones_all c.args.work.now _ c.loop-i.invariant.1 _ c.loop-i-test.false, λ all. refl)
