-- `write_tree_sections::named::put_named_of` meets its contract.
use Rattle.words.proofs.EntryLoop.{Running}
use Rattle.write_tree_sections.proofs.NamedWords.{named-entry}
use Rattle.write_tree_sections.proofs.named.put_named_of.Given as goal

abbrev pub invariant-loop-j : goal.invariant-loop-j
invariant-loop-j l =
    Running l.at l.count (named-entry l.named l.work l.new l.text l.first) l.initial.out l.out l.j l.place
