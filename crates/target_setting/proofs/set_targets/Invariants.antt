-- `target_setting::set_targets` meets its contract.
use Prim.Native.Nat.{◌-◌}
use Rattle.target_setting.proofs.SetLoop.{SetSoFar}
use Rattle.target_setting.proofs.set_targets.Given as goal

abbrev pub invariant-loop-k : goal.invariant-loop-k
invariant-loop-k l = SetSoFar l.source.version l.work l.paths l.initial.nodes l.nodes l.k

abbrev pub decreases-loop-k : goal.decreases-loop-k
decreases-loop-k l = l.count - l.k
