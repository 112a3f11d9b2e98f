-- `write_list_sections::payload::put_list_items` meets its contract.
use Rattle.write_list_sections.proofs.ListLoops.{Listing}
use Rattle.write_list_sections.proofs.payload.put_list_items.Given as goal

abbrev pub invariant-loop-j : goal.invariant-loop-j
invariant-loop-j l = Listing l.payload l.w l.start l.text l.count l.at l.initial.out l.out l.k l.place l.j
