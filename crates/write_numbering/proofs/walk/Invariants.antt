-- `write_numbering::walk` meets its contract.
use Rattle.write_numbering.specs.Work.{tree_of}
use Rattle.write_numbering.proofs.WorkWords.{ReadWalking, read_turns}
use Rattle.write_numbering.proofs.walk.Given as goal

abbrev pub invariant-loop-depth : goal.invariant-loop-depth
invariant-loop-depth l =
    ReadWalking (tree_of l.source.version l.nodes l.children l.named) l.count l.initial.work l.work l.depth l.taken

abbrev pub decreases-loop-depth : goal.decreases-loop-depth
decreases-loop-depth l =
    read_turns (tree_of l.source.version l.nodes l.children l.named) l.count l.work l.depth
