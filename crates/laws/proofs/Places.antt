-- Lists of numbers: the places of their numbers, and that no number comes twice when read backwards.
use Prim.Native.Nat.{ℕ, zero, suc, ◌≤◌, ◌<◌, zero-le, suc-le-suc}
use mathlib.Core.Path.{◌≡◌, refl, sym, ap, ◌∙◌}
use mathlib.Core.List.{List, [], ◌∷◌, reverse_aux}
use mathlib.Core.Bool.{Bool, true, false, cond, ◌||◌, false≢true}
use native.Mathlib.Nat.{not-suc-le-zero, le_of_suc-le-suc}
use lib.ListN.{length, get_or}
use lib.Dec.{eqb}
use borrow.Author.Tests.{eqb-true, eq-eqb, ne_eqb}
use Rattle.laws.specs.Lists.{has, place_in}
use Rattle.laws.proofs.Members.{or_left, or_right, Distinct}

pub distinct-reverse : (xs ys : List ℕ) → Distinct xs → Distinct ys → ((x : ℕ) → has x xs ≡ true → has x ys ≡ false) → Distinct (reverse_aux xs ys)
unfolding has
distinct-reverse [] ys d e apart = e
distinct-reverse (x ∷ xs) ys d e apart =
    distinct-reverse xs (x ∷ ys) d.1 (apart x (or_left (eqb x x) (has x xs) (eq-eqb x x refl)), e) (λ y h. far y h (eqb y x) refl)
  where
    far : (y : ℕ) → has y xs ≡ true → (b : Bool) → eqb y x ≡ b → (b || has y ys) ≡ false
    far y h true q = absurd (false≢true (sym d.0 ∙ ap (λ (z : ℕ). has z xs) (sym (eqb-true y x q)) ∙ h))
    far y h false q = apart y (or_right (eqb y x) (has y xs) h)

-- ---- places

pub get_has : (xs : List ℕ) (j : ℕ) → j < length xs → has (get_or xs j 0) xs ≡ true
unfolding has
get_has [] j h = absurd (not-suc-le-zero h)
get_has (x ∷ xs) zero h = or_left (eqb x x) (has x xs) (eq-eqb x x refl)
get_has (x ∷ xs) (suc j) h = or_right (eqb (get_or xs j 0) x) (has (get_or xs j 0) xs) (get_has xs j (le_of_suc-le-suc h))

pub place_get : (xs : List ℕ) (i : ℕ) → has i xs ≡ true → (get_or xs (place_in xs i) 0 ≡ i) × (place_in xs i < length xs)
unfolding has place_in
place_get [] i h = absurd (false≢true h)
place_get (x ∷ xs) i h = go (eqb i x) refl h (place_get xs i)
  where
    go : (b : Bool) → eqb i x ≡ b → (b || has i xs) ≡ true → (has i xs ≡ true → (get_or xs (place_in xs i) 0 ≡ i) × (place_in xs i < length xs))
        → (get_or (x ∷ xs) (cond b 0 (suc (place_in xs i))) 0 ≡ i) × (cond b 0 (suc (place_in xs i)) < suc (length xs))
    go true e q r = (sym (eqb-true i x e), suc-le-suc zero-le)
    go false e q r = ((r q).0, suc-le-suc (r q).1)

apart : (x y : ℕ) (xs : List ℕ) → has x xs ≡ false → has y xs ≡ true → eqb y x ≡ false
apart x y xs p q = ne_eqb y x (λ e. false≢true (sym p ∙ ap (λ (z : ℕ). has z xs) (sym e) ∙ q))

pub get_place : (xs : List ℕ) (j : ℕ) → Distinct xs → j < length xs → place_in xs (get_or xs j 0) ≡ j
unfolding place_in
get_place [] j d h = absurd (not-suc-le-zero h)
get_place (x ∷ xs) zero d h = rw (eq-eqb x x refl) refl
get_place (x ∷ xs) (suc j) d h =
    rw (apart x (get_or xs j 0) xs d.0 (get_has xs j (le_of_suc-le-suc h))) (ap suc (get_place xs j d.1 (le_of_suc-le-suc h)))

pub place_le : (xs : List ℕ) (i : ℕ) → place_in xs i ≤ length xs
unfolding place_in
place_le [] i = zero-le
place_le (x ∷ xs) i = go (eqb i x) (place_le xs i)
  where
    go : (b : Bool) → place_in xs i ≤ length xs → cond b 0 (suc (place_in xs i)) ≤ suc (length xs)
    go true h = zero-le
    go false h = suc-le-suc h
