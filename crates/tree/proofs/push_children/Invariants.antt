-- `tree::push_children` meets its contract.
use mathlib.Core.List.{[]}
use Prim.Native.Nat.{◌-◌}
use Rattle.tree.specs.Tree.{child_rule, child_at}
use Rattle.tree.specs.Parts.{parts_of}
use Rattle.tree.proofs.Stack.{Pushing}
use Rattle.tree.proofs.push_children.Given as goal

abbrev pub invariant-loop-j : goal.invariant-loop-j
invariant-loop-j l =
    Pushing (child_rule (parts_of l.version l.nodes l.children [] []) l.id) (child_at (parts_of l.version l.nodes l.children [] []) l.id) l.count l.base l.depth l.initial.work l.work l.j

abbrev pub decreases-loop-j : goal.decreases-loop-j
decreases-loop-j l = l.count - l.j
