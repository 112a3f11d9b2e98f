-- `write_numbering::set_numbers` meets its contract.
use Rattle.write_numbering.proofs.NumberLoop.{Ordering}
use Rattle.write_numbering.proofs.set_numbers.Given as goal

abbrev pub invariant-loop-i : goal.invariant-loop-i
invariant-loop-i l = Ordering l.count l.base l.initial.work l.work l.i
