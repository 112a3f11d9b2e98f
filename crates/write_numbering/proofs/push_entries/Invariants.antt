-- `write_numbering::push_entries` meets its contract.
use Rattle.tree.proofs.Stack.{Pushing}
use Rattle.write_numbering.specs.Work.{free, entry_down}
use Rattle.write_numbering.proofs.push_entries.Given as goal

abbrev pub invariant-loop-j : goal.invariant-loop-j
invariant-loop-j l = Pushing free (entry_down l.size l.node l.entries l.start l.count) l.count l.base l.depth l.initial.work l.work l.j
