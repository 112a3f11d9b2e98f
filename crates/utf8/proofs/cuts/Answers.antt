-- `utf8::cuts` meets its contract.
use Prim.Native.Nat.{ℕ, ◌/◌}
use mathlib.Core.Path.{ap}
use lib.Dec.{eqb}
use Rattle.utf8.specs.Places.{continues}
use Rattle.utf8.proofs.cuts.Goals as goal

pub returns : goal.returns
unfolding continues
returns c = ap (λ (b : ℕ). eqb (b / 64) 2) c.byte.ensures
