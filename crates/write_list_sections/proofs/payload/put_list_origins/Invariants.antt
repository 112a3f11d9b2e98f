-- `write_list_sections::payload::put_list_origins` meets its contract.
use Prim.Native.Nat.{◌+◌, ◌*◌}
use Rattle.words.proofs.EntryLoop.{Running}
use Rattle.write_list_sections.specs.Entered.{list_origin_words}
use Rattle.write_list_sections.proofs.payload.put_list_origins.Given as goal

abbrev pub invariant-loop-j : goal.invariant-loop-j
invariant-loop-j l = Running l.at l.count (list_origin_words l.payload l.w l.text (l.start + 8 + l.items * 20)) l.initial.out l.out l.j l.place
