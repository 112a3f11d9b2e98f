-- `write_numbering::push_entries` meets its contract.
use mathlib.Core.Path.{refl}
use native.Mathlib.Omega.{arith}
use Rattle.tree.proofs.Stack.{push_start, push_more}
use Rattle.write_numbering.proofs.push_entries.Goals as goal

pub loop-j-init : goal.loop-j-init
loop-j-init c = push_start _ _ _ _ _ _

pub loop-j-preserved : goal.loop-j-preserved
loop-j-preserved c =
    push_more _ _ _ _ _ _ _ _ c.loop-j.invariant _ _ c.loop-j-test.true c.requires.room c.word.ensures refl (omega arith)
