-- `tree::push_named` meets its contract.
use mathlib.Core.List.{[]}
use Prim.Native.Nat.{◌-◌}
use Rattle.tree.specs.Tree.{named_rule}
use Rattle.tree.specs.Parts.{parts_of, named_node}
use Rattle.tree.proofs.Stack.{Pushing}
use Rattle.tree.proofs.push_named.Given as goal

abbrev pub invariant-loop-j : goal.invariant-loop-j
invariant-loop-j l =
    Pushing (named_rule (parts_of l.version l.nodes [] l.named l.strings) l.id) (named_node (parts_of l.version l.nodes [] l.named l.strings) l.id) l.count l.base l.depth l.initial.work l.work l.j

abbrev pub decreases-loop-j : goal.decreases-loop-j
decreases-loop-j l = l.count - l.j
