-- `write_tree_sections::nodes::put_nodes` meets its contract.
use Rattle.write_tree_sections.proofs.NodeLoop.{NodesSoFar}
use Rattle.write_tree_sections.proofs.nodes.put_nodes.Given as goal

abbrev pub invariant-loop-j : goal.invariant-loop-j
invariant-loop-j l =
    NodesSoFar l.source.version l.nodes l.payload l.work l.layout l.initial.out l.out l.next_text l.starts l.at l.j
