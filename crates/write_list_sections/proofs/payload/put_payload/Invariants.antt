-- `write_list_sections::payload::put_payload` meets its contract.
use Rattle.write_list_sections.proofs.PayloadLoop.{ListsSoFar}
use Rattle.write_list_sections.proofs.payload.put_payload.Given as goal

abbrev pub invariant-loop-j : goal.invariant-loop-j
invariant-loop-j l = ListsSoFar l.source.version l.nodes l.payload l.w l.order l.initial.text l.initial.out l.out l.text l.at l.j
