-- Two fours cover all bytes.
use native.Mathlib.Omega.{arith}
use Rattle.utf8.proofs.Blocks.{ascii_seven}
use Rattle.utf8.proofs.ascii_seven.Goals as goal

pub returns-then-s-n-lt128 : goal.returns-then-s-n-lt128
returns-then-s-n-lt128 c = ascii_seven c.args.s.now (omega arith) (omega arith) c.if-s-n-lt128.true
