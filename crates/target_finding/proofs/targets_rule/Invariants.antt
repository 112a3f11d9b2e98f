-- `target_finding::targets_rule` meets its contract. The loop's invariant: the lowest node of an entry before k that has failed, and what was found.
use Prim.Native.Nat.{◌-◌}
use Rattle.image.specs.Refusals.{refusal_in}
use Rattle.target_finding.proofs.EntryLoop.{EntriesSoFar}
use Rattle.target_finding.proofs.targets_rule.Given as goal

abbrev pub invariant-loop-k : goal.invariant-loop-k
invariant-loop-k l =
    EntriesSoFar l.source.version l.nodes l.children l.named l.strings l.paths l.components l.names l.initial.work l.work l.failing (refusal_in l.answer) l.k

abbrev pub decreases-loop-k : goal.decreases-loop-k
decreases-loop-k l = l.count - l.k
