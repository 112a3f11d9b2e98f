-- `image::first_word` meets its contract.
use mathlib.Core.Path.{sym, ap, subst}
use Prim.Native.Nat.{ℕ, ◌*◌, ◌≤◌}
use native.Mathlib.Omega.{arith}
use Rattle.image.proofs.Widths.{only-common}
use Rattle.image.proofs.first_word.Goals as goal

pub overflow_mul-result : goal.overflow_mul-result
overflow_mul-result c = let h = subst (λ (w : ℕ). c.args.i * w ≤ 18446744073709551615) (only-common c.args.version) c.requires in omega arith

pub returns : goal.returns
returns c = ap (λ (w : ℕ). c.args.i * w) (sym (only-common c.args.version))
