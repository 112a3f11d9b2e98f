-- `list_items::origin_at` meets its contract. The loop's invariant: the definitions before d are left to ask.
use native.Mathlib.Omega.{arith}
use Rattle.list_items.proofs.Search.{unnamed-start, unnamed-next, unnamed-found, unnamed_end}
use Rattle.list_items.proofs.origin_at.Goals as goal

pub loop-at-init : goal.loop-at-init
loop-at-init c = unnamed-start _ _ _

pub returns-then-equal : goal.returns-then-equal
returns-then-equal c = unnamed-found _ _ _ _ _ (omega arith) c.loop-at.invariant _ c.definition_at-definition.ensures _ c.text_part-text.ensures _ c.equal.ensures c.if-equal.true

pub loop-at-preserved : goal.loop-at-preserved
loop-at-preserved c = unnamed-next _ _ _ _ _ (omega arith) c.loop-at.invariant _ c.definition_at-definition.ensures _ c.text_part-text.ensures _ c.equal.ensures c.if-equal.false

pub returns : goal.returns
returns c = unnamed_end _ _ _ _ (omega arith) c.loop-at.invariant
