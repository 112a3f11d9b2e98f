-- `draft_tree::listed::mark_children` meets its contract. The invariant: the first children are marked.
use mathlib.Core.Path.{◌≡◌}
use lib.ListN.{length, get_or}
use Rattle.draft_tree.specs.Standing.{MarkedAmong}
use Rattle.draft_tree.proofs.listed.mark_children.Given as goal

abbrev pub invariant-loop-child : goal.invariant-loop-child
invariant-loop-child l = (length l.work ≡ length l.initial.work) × MarkedAmong l.child-index (λ k. get_or l.children k 0) l.initial.work l.work
