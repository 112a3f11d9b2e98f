-- `draft_tree::rooted::all_rooted` meets its contract.
use mathlib.Core.List.{[]}
use Prim.Native.Nat.{◌-◌}
use Rattle.draft.specs.Source.{draft_of}
use Rattle.draft_tree.proofs.Climbs.{ClimbedSoFar}
use Rattle.draft_tree.proofs.rooted.all_rooted.Given as goal

abbrev pub invariant-loop-i : goal.invariant-loop-i
invariant-loop-i l = ClimbedSoFar (draft_of l.source.version l.nodes [] [] [] [] [] []) l.initial.work l.work l.i

abbrev pub decreases-loop-i : goal.decreases-loop-i
decreases-loop-i l = l.count - l.i
