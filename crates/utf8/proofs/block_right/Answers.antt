-- `utf8::block_right` meets its contract. The invariant: the faults so far are 0 where all bytes so far are right.
use mathlib.Core.Path.{refl}
use Rattle.laws.specs.Counted.{all_of}
use Rattle.utf8.proofs.Blocks.{fault_next}
use Rattle.utf8.proofs.block_right.Goals as goal

pub loop-j-init : goal.loop-j-init
unfolding all_of
loop-j-init c = refl

pub loop-j-preserved : goal.loop-j-preserved
loop-j-preserved c =
    let a = c.args in
    let l = c.loop-j in
    fault_next a.s.now a.at l.j l.e c.fault-e.result l.invariant c.fault-e.ensures
