-- `write_text_uses::put_entries` meets its contract.
use Rattle.write_text_uses.specs.Uses.{entry_pairs}
use Rattle.write_text_uses.proofs.Puts.{RunsSoFar}
use Rattle.write_text_uses.proofs.put_entries.Given as goal

abbrev pub invariant-loop-j : goal.invariant-loop-j
invariant-loop-j l = RunsSoFar l.count (entry_pairs l.entries l.first) l.initial.w l.at l.w l.k l.j
