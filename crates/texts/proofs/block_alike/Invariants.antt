-- The invariant: the differences so far are 0 where all bytes so far are alike.
use mathlib.Core.Path.{◌≡◌}
use lib.Dec.{eqb}
use Rattle.laws.specs.Counted.{all_of}
use Rattle.texts.proofs.Blocks.{like_at}
use Rattle.texts.proofs.block_alike.Given as goal

abbrev pub invariant-loop-j : goal.invariant-loop-j
invariant-loop-j l = eqb l.bits 0 ≡ all_of l.j (like_at l.a l.b l.at)
