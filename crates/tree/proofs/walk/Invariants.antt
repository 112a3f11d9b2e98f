-- `tree::walk` meets its contract.
use Rattle.tree.specs.Parts.{parts_of}
use Rattle.tree.proofs.LoadWalk.{LoadWalking, load_turns}
use Rattle.tree.proofs.walk.Given as goal

abbrev pub invariant-loop-depth : goal.invariant-loop-depth
invariant-loop-depth l = LoadWalking (parts_of l.version l.nodes l.children l.named l.strings) l.count l.initial.work l.work l.depth

abbrev pub decreases-loop-depth : goal.decreases-loop-depth
decreases-loop-depth l = load_turns (parts_of l.version l.nodes l.children l.named l.strings) l.count l.work l.depth
