-- The invariant: what is left of the two is ordered as the two are.
use mathlib.Core.Path.{◌≡◌}
use lib.ListN.{drop}
use Rattle.texts.specs.Text.{order_of}
use Rattle.texts.proofs.compare_bytes.Given as goal

abbrev pub invariant-loop-i : goal.invariant-loop-i
invariant-loop-i l = order_of l.a l.b ≡ order_of (drop l.i l.a) (drop l.i l.b)
