-- `draft_tree::listed::mark_named` meets its contract. The invariant: the nodes of the first entries are marked.
use Prim.Native.Nat.{◌+◌, ◌*◌, ◌≤◌, ◌-◌}
use mathlib.Core.Path.{◌≡◌}
use lib.ListN.{length, get_or}
use Rattle.image.specs.Sections.{text_entry_words}
use Rattle.draft_tree.specs.Standing.{MarkedAmong}
use Rattle.draft_tree.proofs.listed.mark_named.Given as goal

abbrev pub invariant-loop-j : goal.invariant-loop-j
invariant-loop-j l =
    (l.j ≤ l.count) × (length l.work ≡ length l.initial.work) × MarkedAmong l.j (λ k. get_or l.named (k * text_entry_words + 2) 0) l.initial.work l.work

abbrev pub decreases-loop-j : goal.decreases-loop-j
decreases-loop-j l = l.count - l.j
