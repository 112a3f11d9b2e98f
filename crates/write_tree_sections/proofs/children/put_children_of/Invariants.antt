-- `write_tree_sections::children::put_children_of` meets its contract.
use Rattle.words.proofs.EntryLoop.{Running}
use Prim.Native.Nat.{◌+◌}
use mathlib.Core.List.{[], ◌∷◌}
use lib.ListN.{get_or}
use Rattle.write_numbering.specs.Numbers.{new_in}
use Rattle.write_tree_sections.proofs.children.put_children_of.Given as goal

abbrev pub invariant-loop-j : goal.invariant-loop-j
invariant-loop-j l =
    Running l.at l.count (λ m. new_in l.work l.new (get_or l.children (l.first + m) 0) ∷ []) l.initial.out l.out l.j l.place
