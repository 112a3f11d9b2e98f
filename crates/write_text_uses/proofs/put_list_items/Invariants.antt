-- `write_text_uses::put_list_items` meets its contract.
use Rattle.write_text_uses.specs.Uses.{list_item_pairs, payload_only}
use Rattle.write_text_uses.proofs.Puts.{RunsSoFar}
use Rattle.write_text_uses.proofs.put_list_items.Given as goal

abbrev pub invariant-loop-j : goal.invariant-loop-j
invariant-loop-j l = RunsSoFar l.count (list_item_pairs (payload_only l.payload) l.start) l.initial.w l.at l.w l.k l.j
