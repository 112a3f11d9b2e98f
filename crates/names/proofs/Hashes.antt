-- The hash of a text without bytes.
use Prim.Native.Nat.{ℕ, ◌≤◌}
use mathlib.Core.Path.{◌≡◌, refl}
use mathlib.Core.List.{List, [], ◌∷◌}
use native.Mathlib.Omega.{arith}
use lib.ListN.{length}
use Rattle.names.specs.Spelling.{hash_of}

pub hash_none : (t : List ℕ) → length t ≤ 0 → 0 ≡ hash_of t
unfolding hash_of
hash_none [] h = refl
hash_none (x ∷ t) h = absurd (omega arith)
