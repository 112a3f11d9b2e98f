-- A sort has the elements of its list: as many, and what holds of each of them.
use Prim.Native.Nat.{ℕ, suc}
use mathlib.Core.Path.{◌≡◌, refl, ap, ◌∙◌}
use mathlib.Core.List.{List, [], ◌∷◌}
use mathlib.Core.Bool.{Bool, true, false, cond}
use lib.ListN.{length}
use Rattle.laws.specs.Sorted.{insert, isort}
use Rattle.laws.proofs.Members.{All}

module _ (lt : ℕ → ℕ → Bool) where
  pub length-insert : (x : ℕ) (l : List ℕ) → length (insert lt x l) ≡ suc (length l)
  unfolding insert
  length-insert x [] = refl
  length-insert x (y ∷ ys) = go (lt y x) (length-insert x ys)
    where
      go : (b : Bool) → length (insert lt x ys) ≡ suc (length ys) → length (cond b (y ∷ insert lt x ys) (x ∷ y ∷ ys)) ≡ suc (suc (length ys))
      go true r = ap suc r
      go false r = refl

  pub length-isort : (l : List ℕ) → length (isort lt l) ≡ length l
  unfolding isort
  length-isort [] = refl
  length-isort (x ∷ xs) = length-insert x (isort lt xs) ∙ ap suc (length-isort xs)

  pub all_insert : (P : ℕ → Type 0) (x : ℕ) (l : List ℕ) → P x → All P l → All P (insert lt x l)
  unfolding insert
  all_insert P x [] p a = (p, tt)
  all_insert P x (y ∷ ys) p a = go (lt y x) (all_insert P x ys p a.1)
    where
      go : (b : Bool) → All P (insert lt x ys) → All P (cond b (y ∷ insert lt x ys) (x ∷ y ∷ ys))
      go true r = (a.0, r)
      go false r = (p, a)

  pub all_isort : (P : ℕ → Type 0) (l : List ℕ) → All P l → All P (isort lt l)
  unfolding isort
  all_isort P [] a = tt
  all_isort P (x ∷ xs) a = all_insert P x (isort lt xs) a.0 (all_isort P xs a.1)
