-- `write_tree_sections::texts_used::list_texts` meets its contract.
use Rattle.write_tree_sections.proofs.TextCounts.{Counting}
use Rattle.write_tree_sections.proofs.texts_used.list_texts.Given as goal

abbrev pub invariant-loop-j : goal.invariant-loop-j
invariant-loop-j l = Counting l.payload l.start l.items l.present l.j
