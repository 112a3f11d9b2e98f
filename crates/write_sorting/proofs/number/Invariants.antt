-- `write_sorting::number` meets its contract.
use Rattle.write_sorting.proofs.NumberedWords.{Numbering}
use Rattle.write_sorting.proofs.number.Given as goal

abbrev pub invariant-loop-i : goal.invariant-loop-i
invariant-loop-i l = Numbering l.from l.to l.initial.w l.w l.i
