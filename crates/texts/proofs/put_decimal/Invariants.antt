-- `texts::put_decimal` meets its contract. The invariant: what is to be written stands behind the digits of what is left.
use mathlib.Core.Path.{◌≡◌}
use mathlib.Core.List.{◌++◌}
use lib.ListN.{length, drop}
use Rattle.texts.specs.Decimal.{decimal}
use Rattle.texts.proofs.put_decimal.Given as goal

abbrev pub invariant-loop-i : goal.invariant-loop-i
invariant-loop-i l =
    (l.i ≡ length (decimal l.left)) × (decimal l.n ++ drop (length (decimal l.n)) l.initial.out ≡ decimal l.left ++ drop l.i l.out)
