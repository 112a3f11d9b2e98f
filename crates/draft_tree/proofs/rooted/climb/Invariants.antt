-- `draft_tree::rooted::climb` meets its contract. The measure: how many words are still 1.
use mathlib.Core.List.{[]}
use Rattle.draft.specs.Source.{draft_of}
use Rattle.draft_tree.proofs.Climbs.{Climbing, ones}
use Rattle.draft_tree.proofs.rooted.climb.Given as goal

abbrev pub invariant-loop-work : goal.invariant-loop-work
invariant-loop-work l = Climbing (draft_of l.source.version l.nodes [] [] [] [] [] []) l.i l.initial.work l.work l.at

abbrev pub decreases-loop-work : goal.decreases-loop-work
decreases-loop-work l = ones l.work
