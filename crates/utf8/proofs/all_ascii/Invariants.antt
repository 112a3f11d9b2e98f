-- The invariant: the bits so far are a byte below 128 where all bytes so far are.
use mathlib.Core.Path.{◌≡◌}
use lib.Dec.{ltb}
use Rattle.laws.specs.Counted.{all_of}
use Rattle.utf8.proofs.Ascii.{ascii_at}
use Rattle.utf8.proofs.all_ascii.Given as goal

abbrev pub invariant-loop-j : goal.invariant-loop-j
invariant-loop-j g l = ltb l.bits 0x80 ≡ all_of l.j (ascii_at l.s l.at)
