-- `write_text_uses::put_list_origins` meets its contract.
use Rattle.write_text_uses.specs.Uses.{origin_pairs}
use Rattle.write_text_uses.proofs.Puts.{RunsSoFar}
use Rattle.write_text_uses.proofs.put_list_origins.Given as goal

abbrev pub invariant-loop-j : goal.invariant-loop-j
invariant-loop-j l = RunsSoFar l.count (origin_pairs l.payload l.first) l.initial.w l.at l.w l.k l.j
