-- `write_paths::gather` meets its contract.
use Prim.Native.Nat.{◌+◌}
use lib.ListN.{get_or}
use Rattle.write_paths.proofs.WordLoop.{Filled}
use Rattle.write_paths.proofs.gather.Given as goal

abbrev pub invariant-loop-i : goal.invariant-loop-i
invariant-loop-i l = Filled l.initial.w l.count l.count (λ j. get_or l.initial.w (l.list + get_or l.initial.w j 0) 0) l.w l.i
