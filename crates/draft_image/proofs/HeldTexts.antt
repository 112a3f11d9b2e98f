-- Texts that a list of texts holds.
use Prim.Native.Nat.{ℕ, zero, suc, ◌<◌}
use mathlib.Core.Path.{◌≡◌, refl, sym, ap, ◌∙◌}
use mathlib.Core.List.{List, [], ◌∷◌, ◌++◌}
use mathlib.Core.Bool.{Bool, true, false, ◌||◌}
use native.Mathlib.Omega.{arith}
use native.Mathlib.Nat.{not-suc-le-zero}
use native.Mathlib.Decide.{ℕ_discrete}
use Rattle.laws.specs.Counted.{join_of}
use Rattle.laws.proofs.Members.{or_left, or_right}
use Rattle.texts.specs.Text.{same, holds}
use Rattle.texts.proofs.Text.{same_self}

holds_append : (xs ys : List (List ℕ)) (t : List ℕ) → holds (xs ++ ys) t ≡ (holds xs t || holds ys t)
unfolding holds
holds_append [] ys t = refl
holds_append (x ∷ xs) ys t = go (same t x) (holds_append xs ys t)
  where
    go : (b : Bool) → holds (xs ++ ys) t ≡ (holds xs t || holds ys t) → (b || holds (xs ++ ys) t) ≡ (b || holds xs t || holds ys t)
    go true e = refl
    go false e = e

pub in_left : (xs ys : List (List ℕ)) (t : List ℕ) → holds xs t ≡ true → holds (xs ++ ys) t ≡ true
in_left xs ys t h = holds_append xs ys t ∙ or_left (holds xs t) (holds ys t) h

pub in_right : (xs ys : List (List ℕ)) (t : List ℕ) → holds ys t ≡ true → holds (xs ++ ys) t ≡ true
in_right xs ys t h = holds_append xs ys t ∙ or_right (holds xs t) (holds ys t) h

pub in_head : (t : List ℕ) (ts : List (List ℕ)) → holds (t ∷ ts) t ≡ true
unfolding holds
in_head t ts = or_left (same t t) (holds ts t) (same_self t)

pub in_one : (t : List ℕ) → holds (t ∷ []) t ≡ true
in_one t = in_head t []

pub in_join : (n j : ℕ) (g : ℕ → List (List ℕ)) (t : List ℕ) → j < n → holds (g j) t ≡ true → holds (join_of n g) t ≡ true
unfolding join_of
in_join zero j g t h q = absurd (not-suc-le-zero h)
in_join (suc n) j g t h q =
    elim (ℕ_discrete j n) [
      | yes e ↦ in_right (join_of n g) (g n) t (ap (λ (m : ℕ). holds (g m) t) (sym e) ∙ q)
      | no d ↦ in_left (join_of n g) (g n) t (in_join n j g t (omega arith) q)
    ]
