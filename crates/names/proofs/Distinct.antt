-- The number of a text in a list of names: its place, where the names are distinct.
use Rattle.std.specs.Prelude.{None, Option, Some, option_map, is_some}
use Prim.Native.Nat.{ℕ, zero, suc, ◌<◌}
use mathlib.Core.Path.{◌≡◌, refl, sym}
use mathlib.Core.List.{List, [], ◌∷◌}
use mathlib.Core.Bool.{Bool, true, false, cond, not, ◌&&◌, ◌||◌, false≢true}
use native.Mathlib.Omega.{arith}
use native.Mathlib.Nat.{not-suc-le-zero, le_of_suc-le-suc}
use lib.ListN.{length, get_or}
use Rattle.texts.specs.Text.{same, holds}
use Rattle.texts.proofs.Text.{same_self, same-equal, equal-same, same-turned}
use Rattle.names.specs.Names.{number_in}

-- no name stands twice
unfoldable pub distinct : List (List ℕ) → Bool
distinct [] = true
distinct (x ∷ xs) = not (holds xs x) && distinct xs

-- the text has the number k in the list
pub record Placed (names : List (List ℕ)) (t : List ℕ) (k : ℕ) : Type 0 where
  pub below : k < length names
  pub text : t ≡ get_or names k []

-- a number is the place of the text
pub number-placed : (names : List (List ℕ)) (t : List ℕ) (k : ℕ) → number_in names t ≡ Some k → Placed names t k
unfolding number_in
number-placed [] t k p = absurd (let z : ◌≡◌ {A = ℕ} 0 1 = cc in omega arith)
number-placed (x ∷ xs) t k p = by (same t x) refl (number_in xs t) (number-placed xs t) p
  where
    by : (b : Bool) → same t x ≡ b → (o : Option ℕ) → ((j : ℕ) → o ≡ Some j → Placed xs t j) → cond b (Some 0) (option_map suc o) ≡ Some k → Placed (x ∷ xs) t k
    by true e o r q = let z : k ≡ 0 = cc in rw z (record { below = omega arith; text = same-equal t x e })
    by false e None r q = absurd (let z : ◌≡◌ {A = ℕ} 0 1 = cc in omega arith)
    by false e (Some j) r q = let z : k ≡ suc j = cc in let w = r j refl in rw z (record { below = omega arith; text = w.text })

-- what is not held is not at any place
not-held : (names : List (List ℕ)) (t : List ℕ) → holds names t ≡ false → (k : ℕ) → k < length names → same t (get_or names k []) ≡ false
unfolding holds
not-held [] t p k h = absurd (not-suc-le-zero h)
not-held (x ∷ xs) t p zero h = by (same t x) (holds xs t) p
  where
    by : (a b : Bool) → (a || b) ≡ false → a ≡ false
    by true b q = q
    by false b q = refl
not-held (x ∷ xs) t p (suc k) h = not-held xs t (by (same t x) (holds xs t) p) k (le_of_suc-le-suc h)
  where
    by : (a b : Bool) → (a || b) ≡ false → b ≡ false
    by true b q = absurd (false≢true (sym q))
    by false b q = q

-- each of distinct names has its place for its number
pub place-number : (names : List (List ℕ)) → distinct names ≡ true → (k : ℕ) → k < length names → number_in names (get_or names k []) ≡ Some k
unfolding number_in distinct
place-number [] p k h = absurd (not-suc-le-zero h)
place-number (x ∷ xs) p zero h = rw (same_self x)
place-number (x ∷ xs) p (suc k) h = by (holds xs x) refl p (λ q. place-number xs q k (le_of_suc-le-suc h))
  where
    by : (b : Bool) → holds xs x ≡ b → (not b && distinct xs) ≡ true → (distinct xs ≡ true → number_in xs (get_or xs k []) ≡ Some k)
        → cond (same (get_or xs k []) x) (Some 0) (option_map suc (number_in xs (get_or xs k []))) ≡ Some (suc k)
    by true e q r = absurd (false≢true q)
    by false e q r = rw (same-turned x (get_or xs k []), not-held xs x e k (le_of_suc-le-suc h), r q)

-- exactly the texts that the list holds have a number
pub number-held : (names : List (List ℕ)) (t : List ℕ) → holds names t ≡ is_some (number_in names t)
unfolding number_in holds
number-held [] t = refl
number-held (x ∷ xs) t = by (same t x) (number_in xs t) (number-held xs t)
  where
    by : (b : Bool) (o : Option ℕ) → holds xs t ≡ is_some o → (b || holds xs t) ≡ is_some (cond b (Some 0) (option_map suc o))
    by true o r = refl
    by false None r = r
    by false (Some j) r = r

-- and so has the text of a place
pub held-number : (names : List (List ℕ)) (t : List ℕ) (k : ℕ) → k < length names → t ≡ get_or names k [] → number_in names t ≡ None → ⊥
unfolding number_in
held-number [] t k h e p = not-suc-le-zero h
held-number (x ∷ xs) t zero h e p = by (same t x) (equal-same t x e) p
  where
    by : (b : Bool) → b ≡ true → cond b (Some 0) (option_map suc (number_in xs t)) ≡ None → ⊥
    by true q r = let z : ◌≡◌ {A = ℕ} 0 1 = cc in omega arith
    by false q r = false≢true q
held-number (x ∷ xs) t (suc k) h e p = by (same t x) (number_in xs t) (held-number xs t k (le_of_suc-le-suc h) e) p
  where
    by : (b : Bool) (o : Option ℕ) → (o ≡ None → ⊥) → cond b (Some 0) (option_map suc o) ≡ None → ⊥
    by true o r q = let z : ◌≡◌ {A = ℕ} 0 1 = cc in omega arith
    by false None r q = r refl
    by false (Some j) r q = let z : ◌≡◌ {A = ℕ} 0 1 = cc in omega arith
