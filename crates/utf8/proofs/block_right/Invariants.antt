-- `utf8::block_right` meets its contract. The invariant: the faults so far are 0 where all bytes so far are right.
use Prim.Native.Nat.{◌+◌}
use mathlib.Core.Path.{◌≡◌}
use lib.Dec.{eqb}
use Rattle.laws.specs.Counted.{all_of}
use Rattle.utf8.specs.Places.{right_at}
use Rattle.utf8.proofs.block_right.Given as goal

abbrev pub invariant-loop-j : goal.invariant-loop-j
invariant-loop-j l = eqb l.e 0 ≡ all_of l.j (λ k. right_at l.s (l.at + k))
