-- The invariant: both are alike so far.
use Prim.Native.Nat.{◌*◌}
use Rattle.texts.specs.Blocks.{Alike}
use Rattle.texts.proofs.alike_blocks.Given as goal

abbrev pub invariant-loop-block : goal.invariant-loop-block
invariant-loop-block l = Alike l.a l.b (64 * l.block)
