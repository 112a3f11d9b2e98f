-- `list_items::last_item` meets its contract. The loop's invariant: the definitions before d are left to search.
use Prim.Native.Nat.{◌-◌}
use Rattle.list_items.proofs.Search.{Sought}
use Rattle.list_items.proofs.last_item.Given as goal

abbrev pub invariant-loop-d : goal.invariant-loop-d
invariant-loop-d l = Sought l.definitions l.items l.strings l.first l.count l.name (l.d - l.first)
