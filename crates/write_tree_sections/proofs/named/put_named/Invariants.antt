-- `write_tree_sections::named::put_named` meets its contract.
use Rattle.write_tree_sections.proofs.NamedWords.{Naming}
use Rattle.write_tree_sections.proofs.named.put_named.Given as goal

abbrev pub invariant-loop-j : goal.invariant-loop-j
invariant-loop-j l =
    Naming l.source.version l.nodes l.named l.work l.layout l.offsets l.initial.out l.out l.text l.at l.j
