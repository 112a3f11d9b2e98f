-- `views::view::signed_of` meets its contract.
use mathlib.Core.Path.{ap, ◌≡◌}
use Prim.Native.Nat.{◌-◌}
use native.Mathlib.Omega.{arith}
use mir.Val.{to_z}
use mir.Syntax.{w32}
use Rattle.views.proofs.view.signed_of.Goals as goal

pub returns-else-word-lt2147483648 : goal.returns-else-word-lt2147483648
returns-else-word-lt2147483648 c = let e : 4294967295 - (4294967295 - c.args.word) ≡ c.args.word = omega arith in ap (to_z w32) e
