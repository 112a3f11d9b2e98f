-- `depth::depth` meets its contract. The loop's invariant: so many steps have led to the node, and the rest are those from it.
use Rattle.image.specs.Header.{sections_by}
use Rattle.depth.proofs.ClimbLoop.{Climbed}
use Rattle.depth.proofs.depth.Given as goal

abbrev pub invariant-loop-steps : goal.invariant-loop-steps
invariant-loop-steps l = Climbed (sections_by l.bytes l.view) l.id l.at l.steps
