-- `write_numbering::set_numbers` meets its contract.
use mathlib.Core.Path.{refl}
use native.Mathlib.Omega.{arith}
use Rattle.write_numbering.proofs.NumberLoop.{order-start, order-more, order_end}
use Rattle.write_numbering.proofs.set_numbers.Goals as goal

pub loop-i-init : goal.loop-i-init
loop-i-init c = order-start _ _ _ c.requires.marks

pub loop-i-preserved : goal.loop-i-preserved
loop-i-preserved c =
    order-more _ _ _ _ _ c.loop-i.invariant c.requires.marks c.requires.count_le_base.0 c.requires.count_le_base.1 c.loop-i-test.true _ _ _ refl (omega arith) (omega arith)

pub returns : goal.returns
returns c = order_end _ _ _ _ _ c.loop-i.invariant c.loop-i-test.false
