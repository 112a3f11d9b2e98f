-- The invariant: the differences so far are 0 where all bytes so far are alike.
use mathlib.Core.Path.{refl}
use Rattle.laws.specs.Counted.{all_of}
use Rattle.texts.proofs.Blocks.{bits-next}
use Rattle.texts.proofs.block_alike.Goals as goal

pub loop-j-init : goal.loop-j-init
unfolding all_of
loop-j-init c = refl

pub loop-j-preserved : goal.loop-j-preserved
loop-j-preserved c =
    let x = c.args in
    let l = c.loop-j in
    bits-next x.a.now x.b.now x.at l.j l.bits l.invariant
