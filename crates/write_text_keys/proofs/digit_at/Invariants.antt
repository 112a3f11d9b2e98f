-- `write_text_keys::digit_at` meets its contract. The invariant: digit i of what is left is digit i of n, and one digit fewer is left after each turn.
use Prim.Native.Nat.{◌+◌}
use mathlib.Core.Path.{◌≡◌}
use lib.ListN.{length, get_or}
use Rattle.texts.specs.Decimal.{decimal}
use Rattle.write_text_keys.proofs.digit_at.Given as goal

abbrev pub invariant-loop-behind : goal.invariant-loop-behind
invariant-loop-behind l = (length (decimal l.rest) + l._behind ≡ l.size + (l.i + 1)) × (get_or (decimal l.n) l.i 0 ≡ get_or (decimal l.rest) l.i 0)
