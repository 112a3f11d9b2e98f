-- The invariant: the bits so far are a byte below 128 where all bytes so far are.
use mathlib.Core.Path.{refl}
use Rattle.laws.specs.Counted.{all_of}
use Rattle.utf8.proofs.Ascii.{bits-next}
use Rattle.utf8.proofs.all_ascii.Goals as goal

pub loop-j-init : goal.loop-j-init
unfolding all_of
loop-j-init g c = refl

pub loop-j-preserved : goal.loop-j-preserved
loop-j-preserved g c =
    let a = c.args in
    let l = c.loop-j in
    bits-next a.s.now a.at l.j l.bits l.invariant
