-- The three places are all there are.
use native.Mathlib.Omega.{arith}
use Rattle.utf8.proofs.Blocks.{ascii-three}
use Rattle.utf8.proofs.ascii_three.Goals as goal

pub returns-then-s-n-lt128 : goal.returns-then-s-n-lt128
returns-then-s-n-lt128 c = ascii-three c.args.s.now (omega arith) (omega arith) c.if-s-n-lt128.true
