-- `utf8::blocks_short` meets its contract. The invariant: where the faults so far are 0, all bytes so far are below 0xe0 and right.
use mathlib.Core.Path.{◌≡◌}
use mathlib.Core.Bool.{true}
use lib.Dec.{eqb}
use Rattle.utf8.proofs.ShortBlocks.{Short}
use Rattle.utf8.proofs.blocks_short.Given as goal

abbrev pub invariant-loop-j : goal.invariant-loop-j
invariant-loop-j l = eqb l.e 0 ≡ true → Short l.s l.at l.j
