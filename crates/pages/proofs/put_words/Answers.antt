-- `pages::put_words` meets its contract: after i turns the first i words are written.
use mathlib.Core.Path.{◌≡◌, refl, subst}
use mathlib.Core.List.{◌++◌}
use native.Mathlib.Omega.{arith}
use lib.ListN.{drop, length-set}
use Rattle.laws.proofs.Lists.{copy_step, copy_end}
use Rattle.pages.proofs.put_words.Goals as goal

pub loop-i-init : goal.loop-i-init
loop-i-init c = (refl, refl)

pub loop-i-preserved : goal.loop-i-preserved
loop-i-preserved c =
    (simp length-set c.loop-i.invariant.0, copy_step _ _ c.loop-i.out c.loop-i.i c.loop-i.invariant.1 (omega arith) (omega arith))

pub returns : goal.returns
returns c =
    subst (λ n. c.loop-i.out ≡ c.args.slot.now ++ drop n c.args.out.now) c.requires.0
    (copy_end _ _ c.loop-i.out c.loop-i.i (omega arith) c.loop-i.invariant.1)
