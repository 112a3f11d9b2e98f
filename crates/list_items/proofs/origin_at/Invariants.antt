-- `list_items::origin_at` meets its contract. The loop's invariant: the definitions before d are left to ask.
use Rattle.list_items.proofs.Search.{Unnamed}
use Rattle.list_items.proofs.origin_at.Given as goal

abbrev pub invariant-loop-at : goal.invariant-loop-at
invariant-loop-at l = Unnamed l.definitions l.strings l.origin l.at
