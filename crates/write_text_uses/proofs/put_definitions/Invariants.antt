-- `write_text_uses::put_definitions` meets its contract.
use Prim.Native.Nat.{◌/◌}
use lib.ListN.{length}
use Rattle.write_text_uses.specs.Uses.{definition_pairs, definitions_only}
use Rattle.write_text_uses.proofs.Puts.{RunsSoFar}
use Rattle.write_text_uses.proofs.put_definitions.Given as goal

abbrev pub invariant-loop-d : goal.invariant-loop-d
invariant-loop-d l = RunsSoFar (length l.definitions / 4) (definition_pairs (definitions_only l.definitions l.items)) l.initial.w l.at l.w l.k l.d
