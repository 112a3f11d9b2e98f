-- `draft_walks::walk` meets its contract. The loop's invariant: the walk from `at` along the words that are left is all that is left.
use lib.ListN.{length, drop}
use Rattle.draft_walks.specs.Walked.{walked}
use Rattle.walks.proofs.Steps.{Along}
use Rattle.draft_walks.proofs.walk.Given as goal

abbrev pub invariant-loop-left : goal.invariant-loop-left
invariant-loop-left l = Along (walked l.source.version l.nodes l.children l.named l.strings) l.names (drop l.first l.path) l.from l.at l.left

abbrev pub decreases-loop-left : goal.decreases-loop-left
decreases-loop-left l = length l.left
