-- `texts::is_decimal` meets its contract. The invariant: the text is n in decimal if its first i bytes are what is left of n in decimal.
use Prim.Native.Nat.{◌≤◌}
use mathlib.Core.Path.{◌≡◌}
use lib.ListN.{length, take}
use Rattle.texts.specs.Text.{same}
use Rattle.texts.specs.Decimal.{decimal}
use Rattle.texts.proofs.is_decimal.Given as goal

abbrev pub invariant-loop-rest : goal.invariant-loop-rest
invariant-loop-rest l = (l.i ≤ length l.t) × (same l.t (decimal l.n) ≡ same (take l.i l.t) (decimal l.rest))

abbrev pub decreases-loop-rest : goal.decreases-loop-rest
decreases-loop-rest l = l.rest
