-- `write_text_uses::put_named` meets its contract.
use Prim.Native.Nat.{◌/◌}
use lib.ListN.{length}
use Rattle.image.specs.Sections.{node_words}
use Rattle.write_text_uses.specs.Uses.{named_pairs, named_only}
use Rattle.write_text_uses.proofs.Puts.{RunsPut}
use Rattle.write_text_uses.proofs.put_named.Given as goal

abbrev pub invariant-loop-j : goal.invariant-loop-j
invariant-loop-j l = RunsPut (length l.nodes / node_words l.source.version) (named_pairs (named_only l.source.version l.nodes l.named)) l.initial.w l.order l.at l.w l.k l.j
