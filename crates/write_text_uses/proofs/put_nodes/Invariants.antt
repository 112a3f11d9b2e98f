-- `write_text_uses::put_nodes` meets its contract.
use Prim.Native.Nat.{◌/◌}
use lib.ListN.{length}
use Rattle.draft.specs.Source.{nodes_only}
use Rattle.image.specs.Sections.{node_words}
use Rattle.write_text_uses.specs.Uses.{node_pairs}
use Rattle.write_text_uses.proofs.Puts.{RunsPut}
use Rattle.write_text_uses.proofs.put_nodes.Given as goal

abbrev pub invariant-loop-j : goal.invariant-loop-j
invariant-loop-j l = RunsPut (length l.nodes / node_words l.source.version) (node_pairs (nodes_only l.source.version l.nodes l.payload)) l.initial.w l.order l.at l.w l.k l.j
