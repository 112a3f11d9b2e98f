-- `write_list_sections::definition_sections::put_items_from` meets its contract.
use Rattle.words.proofs.EntryLoop.{Running}
use Rattle.write_list_sections.specs.Entered.{item_words}
use Rattle.write_list_sections.proofs.definition_sections.put_items_from.Given as goal

abbrev pub invariant-loop-i : goal.invariant-loop-i
invariant-loop-i l = Running l.at l.count (item_words l.items l.w l.text l.first) l.initial.out l.out l.i l.place
