-- `tree::push_children` meets its contract.
use mathlib.Core.Path.{sym, ◌∙◌}
use native.Mathlib.Omega.{arith}
use borrow.Author.Tests.{not-true, not-false}
use Rattle.words.proofs.Words.{length-words}
use Rattle.tree.proofs.Stack.{push_start, push_more, push_end, push_stop}
use Rattle.tree.proofs.Tests.{child_is, child-passes, child-fails}
use Rattle.tree.proofs.push_children.Goals as goal

pub loop-j-init : goal.loop-j-init
loop-j-init c = push_start _ _ _ _ _ _

pub overflow_add-start : goal.overflow_add-start
overflow_add-start c = omega (arith, length-words c.args.children.now)

pub part_word-child-requires : goal.part_word-child-requires
part_word-child-requires c = omega (arith, length-words c.args.children.now)

pub returns-then-not-right_child : goal.returns-then-not-right_child
returns-then-not-right_child c =
    push_stop _ _ _ _ _ _ _ _ c.loop-j.invariant _ c.loop-j-test.true (λ e. omega arith)
    (child-fails _ _ _ _ _ _ _ c.requires.start_value c.part_word-child.ensures (sym c.right_child.ensures ∙ not-true _ c.if-not-right_child.true-raw))

pub loop-j-preserved : goal.loop-j-preserved
loop-j-preserved c =
    push_more _ _ _ _ _ _ _ _ c.loop-j.invariant _ _ c.loop-j-test.true c.requires.count_bound.1
    (child_is _ _ _ _ _ _ _ c.requires.start_value c.part_word-child.ensures)
    (child-passes _ _ _ _ _ _ _ c.requires.start_value c.part_word-child.ensures (sym c.right_child.ensures ∙ not-false _ c.if-not-right_child.false-raw))
    (omega arith)

pub returns : goal.returns
returns c = push_end _ _ _ _ _ _ _ _ c.loop-j.invariant c.loop-j-test.false
