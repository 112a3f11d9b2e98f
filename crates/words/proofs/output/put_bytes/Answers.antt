-- `words::output::put_bytes` meets its contract. The invariant: the first i bytes are written.
use native.Mathlib.Omega.{arith}
use mathlib.Core.Path.{refl}
use lib.ListN.{length-set}
use Rattle.laws.proofs.Lists.{copy_step, copy_end}
use Rattle.words.proofs.output.put_bytes.Goals as goal

pub loop-i-init : goal.loop-i-init
loop-i-init c = (refl, refl)

pub loop-i-preserved : goal.loop-i-preserved
loop-i-preserved c = (
  simp length-set c.loop-i.invariant.0,
  copy_step c.args.bytes.now c.args.out.now c.loop-i.out c.loop-i.i c.loop-i.invariant.1 (omega arith) (omega arith),
)

pub returns : goal.returns
returns c = copy_end c.args.bytes.now c.args.out.now c.loop-i.out c.loop-i.i (omega arith) c.loop-i.invariant.1
