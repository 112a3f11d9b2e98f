-- Tests, and every element of a list.
use Prim.Native.Nat.{ℕ, zero, suc, ◌<◌}
use mathlib.Core.Path.{◌≡◌, refl, sym}
use mathlib.Core.Logic.{⊎_elim}
use mathlib.Core.List.Memᴰ
use mathlib.Core.List.{List, [], ◌∷◌}
use mathlib.Core.Bool.{Bool, true, false, ◌||◌, not, false≢true}
use native.Mathlib.Omega.{arith}
use lib.ListN.{set}
use lib.Seq.{sets}
use Rattle.laws.specs.Counted.{join_of}
use Rattle.laws.specs.Lists.{Below}
use Rattle.laws.proofs.Members.{All, all_append}

-- ---- tests

pub or_else : (a b : Bool) → (a || b) ≡ true → a ≡ false → b ≡ true
or_else true b h e = absurd (false≢true (sym e))
or_else false b h e = h

pub not_of : (b : Bool) → b ≡ false → not b ≡ true
not_of b e = rw e refl

-- ---- every element

pub all_joined : (P : ℕ → Type 0) (n : ℕ) (g : ℕ → List ℕ) → ((j : ℕ) → j < n → All P (g j)) → All P (join_of n g)
unfolding join_of
all_joined P zero g h = tt
all_joined P (suc n) g h = all_append P (join_of n g) (g n) (all_joined P n g (λ j k. h j (omega arith))) (h n (omega arith))

all_set : (P : ℕ → Type 0) (xs : List ℕ) (k v : ℕ) → All P xs → P v → All P (set xs k v)
all_set P [] k v a p = tt
all_set P (x ∷ xs) zero v a p = (p, a.1)
all_set P (x ∷ xs) (suc k) v a p = (a.0, all_set P xs k v a.1 p)

pub all_sets : (P : ℕ → Type 0) (xs : List ℕ) (k : ℕ) (vs : List ℕ) → All P xs → All P vs → All P (sets xs k vs)
all_sets P xs k [] a p = a
all_sets P xs k (v ∷ vs) a p = all_sets P (set xs k v) (suc k) vs (all_set P xs k v a p.0) p.1

pub all_below : (n : ℕ) (xs : List ℕ) → All (λ x. x < n) xs → Below n xs
all_below n [] a x m = absurd (Memᴰ.not-nil m)
all_below n (y ∷ xs) a x m = ⊎_elim (λ e. omega (arith, a.0)) (all_below n xs a.1 x) (Memᴰ.cases_cons m)
