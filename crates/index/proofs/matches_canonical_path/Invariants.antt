-- `index::matches_canonical_path` meets its contract. The invariant: the text fits if what is left of it fits the node that is reached.
use Prim.Native.Nat.{◌≤◌}
use mathlib.Core.Path.{◌≡◌}
use mathlib.Core.List.{[]}
use lib.ListN.{length, take}
use Rattle.index.specs.Paths.{fits}
use Rattle.index.specs.Parts.{index_parts}
use Rattle.index.proofs.Paths.{fits_from}
use Rattle.index.proofs.matches_canonical_path.Given as goal

abbrev pub invariant-loop-at : goal.invariant-loop-at
invariant-loop-at l =
    (l.end ≤ length l.text) × (fits (index_parts l.version l.nodes [] l.strings) l.id l.text ≡ fits_from l.steps (index_parts l.version l.nodes [] l.strings) l.at (take l.end l.text))

abbrev pub decreases-loop-at : goal.decreases-loop-at
decreases-loop-at l = l.steps
