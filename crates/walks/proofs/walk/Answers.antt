-- `walks::walk` meets its contract. The loop's invariant: the walk from `at` along the words that are left is all that is left.
use mathlib.Core.Path.{refl, sym, ◌∙◌}
use borrow.Author.Tests.{eqb-true, eqb-false}
use native.Mathlib.Omega.{arith}
use lib.ListN.{length-take, length-drop}
use Rattle.laws.proofs.Lists.{to_end}
use Rattle.walks.proofs.Steps.{along-broken, along-lost, along-next, along_end}
use Rattle.walks.proofs.walk.Goals as goal

pub loop-left-init : goal.loop-left-init
loop-left-init c = refl

pub returns-in-None : goal.returns-in-None
returns-in-None c =
    along-lost _ _ _ _ _ c.loop-left.left.now _ c.in-len3-up.len_at_least refl c.loop-left.invariant _ c.step_along.ensures c.in-None.is

pub loop-left-smaller : goal.loop-left-smaller
loop-left-smaller c = simp (length-take, length-drop) (let h = c.in-len3-up.len_at_least in omega arith)

pub loop-left-preserved : goal.loop-left-preserved
loop-left-preserved c =
    along-next _ _ _ _ _ c.loop-left.left.now _ c.in-len3-up.len_at_least (to_end 3 c.loop-left.left.now) c.loop-left.invariant _ c.step_along.ensures
    _ c.in-Some.is

pub returns-then-is_empty : goal.returns-then-is_empty
returns-then-is_empty c = along_end _ _ _ _ _ c.loop-left.left.now (eqb-true _ 0 (sym c.is_empty.ensures ∙ c.if-is_empty.true)) c.loop-left.invariant

pub returns-else-is_empty : goal.returns-else-is_empty
returns-else-is_empty c = along-broken _ _ _ _ _ c.loop-left.left.now (eqb-false _ 0 (sym c.is_empty.ensures ∙ c.if-is_empty.false)) c.in_default.len_below c.loop-left.invariant
