-- `walks::walk` meets its contract. The loop's invariant: the walk from `at` along the words that are left is all that is left.
use lib.ListN.{length}
use Rattle.image.specs.Header.{sections_by}
use Rattle.walks.proofs.Steps.{Along}
use Rattle.walks.proofs.walk.Given as goal

abbrev pub invariant-loop-left : goal.invariant-loop-left
invariant-loop-left l = Along (sections_by l.bytes l.view) l.names l.path l.from l.at l.left

abbrev pub decreases-loop-left : goal.decreases-loop-left
decreases-loop-left l = length l.left
