-- `lookups::halve` meets its contract. The loop's invariant: the range lo to hi is all that is left to search.
use Prim.Native.Nat.{ℕ, ◌-◌, ◌≤◌, ◌<◌}
use mathlib.Core.Path.{◌≡◌}
use mathlib.Core.List.{List}
use Rattle.std.specs.declared.cmp.Ordering.{Ordering}
use Rattle.texts.specs.Text.{order_of}
use Rattle.lookups.proofs.HalvingSearch.{Searching}
use Rattle.lookups.proofs.halve.Given as goal

abbrev pub invariant-loop-lo : goal.invariant-loop-lo
invariant-loop-lo g l =
    (l.hi ≤ l.count)
    × ((t : ℕ → List ℕ) (name : List ℕ) → ((k : ℕ) (o : Ordering) → k < l.count → goal.C-post g l.order k o → o ≡ order_of (t k) name) → Searching t name l.count l.lo l.hi)

abbrev pub decreases-loop-lo : goal.decreases-loop-lo
decreases-loop-lo g l = l.hi - l.lo
