-- `words::output::put_words` meets its contract.
use Rattle.words.proofs.FilledOutput.{Putting}
use Rattle.words.proofs.output.put_words.Given as goal

abbrev pub invariant-loop-i : goal.invariant-loop-i
invariant-loop-i l = Putting l.at l.words l.initial.out l.out l.i
