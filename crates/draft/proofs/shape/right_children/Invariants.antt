-- `draft::shape::right_children` meets its contract. The invariant: the tests so far pass.
use Prim.Native.Nat.{◌≤◌, ◌-◌, ◌+◌}
use mathlib.Core.Path.{◌≡◌}
use mathlib.Core.Bool.{true}
use Rattle.laws.specs.Counted.{all_of}
use lib.ListN.{get_or}
use mathlib.Core.List.{[]}
use Rattle.tree.specs.Tree.{right_child}
use Rattle.draft.specs.Source.{draft_of}
use Rattle.draft.proofs.shape.right_children.Given as goal

abbrev pub invariant-loop-j : goal.invariant-loop-j
invariant-loop-j l =
    let s = draft_of l.source.version l.nodes [] [] [] [] [] [] in
    (l.j ≤ l.count) × (all_of l.j (λ k. right_child s (get_or l.children (l.start + k) 0) l.id k) ≡ true)

abbrev pub decreases-loop-j : goal.decreases-loop-j
decreases-loop-j l = l.count - l.j
