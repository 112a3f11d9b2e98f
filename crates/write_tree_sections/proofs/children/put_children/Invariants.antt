-- `write_tree_sections::children::put_children` meets its contract.
use Rattle.write_tree_sections.proofs.ChildWords.{entry}
use Prim.Native.Nat.{◌/◌}
use lib.ListN.{length}
use Rattle.image.specs.Sections.{node_words}
use Rattle.words.proofs.EntryLoop.{Running}
use Rattle.write_tree_sections.proofs.children.put_children.Given as goal

abbrev pub invariant-loop-j : goal.invariant-loop-j
invariant-loop-j l =
    Running 0 (length l.nodes / node_words l.source.version) (entry l.source.version l.nodes l.children l.work l.layout.order l.layout.new) l.initial.out l.out l.j l.at
