-- Sums over the nodes in the order of the image are those over the nodes of the draft.
use Prim.Native.Nat.{ℕ, zero, suc, ◌+◌, ◌<◌}
use mathlib.Core.Path.{◌≡◌, refl, sym, ap, ◌∙◌}
use mathlib.Core.List.{List, [], ◌∷◌}
use mathlib.Core.Bool.{cond, ◌||◌}
use native.Mathlib.Omega.{arith}
use lib.ListN.{length, get_or}
use lib.Dec.{eqb}
use borrow.Author.Tests.{eq-eqb, ne_eqb}
use Rattle.laws.specs.Counted.{sum_of}
use Rattle.laws.specs.Lists.{has}
use Rattle.laws.proofs.Members.{All, Distinct, sum_ext, sum_point}
use Rattle.draft.specs.Numbering.{old_of}
use Rattle.draft.proofs.ReachedNodes.{Numbered}

-- the sum over a list
sum_in : (ℕ → ℕ) → List ℕ → ℕ
sum_in g [] = 0
sum_in g (x ∷ xs) = g x + sum_in g xs

sum_front : (n : ℕ) (g : ℕ → ℕ) → sum_of (suc n) g ≡ g 0 + sum_of n (λ j. g (suc j))
unfolding sum_of
sum_front zero g = omega arith
sum_front (suc n) g = omega (arith, sum_front n g)

sum_list : (g : ℕ → ℕ) (xs : List ℕ) → sum_of (length xs) (λ j. g (get_or xs j 0)) ≡ sum_in g xs
unfolding sum_in
sum_list g [] = unfold sum_of in refl
sum_list g (x ∷ xs) = sum_front (length xs) (λ j. g (get_or (x ∷ xs) j 0)) ∙ ap (λ (m : ℕ). g x + m) (sum_list g xs)

sum_none : (n : ℕ) (g : ℕ → ℕ) → ((i : ℕ) → i < n → g i ≡ 0) → sum_of n g ≡ 0
unfolding sum_of
sum_none zero g e = refl
sum_none (suc n) g e = omega (arith, sum_none n g (λ i h. e i (omega arith)), e n (omega arith))

-- the numbers that the list lacks
lacking : (ℕ → ℕ) → List ℕ → ℕ → ℕ
lacking g xs i = cond (has i xs) 0 (g i)

sum_rest : (n : ℕ) (g : ℕ → ℕ) (xs : List ℕ) → Distinct xs → All (λ x. x < n) xs → sum_in g xs + sum_of n (lacking g xs) ≡ sum_of n g
unfolding sum_in lacking has
sum_rest n g [] d a = omega (arith, sum_ext n (λ i. cond (has i []) 0 (g i)) g (λ i h. refl))
sum_rest n g (x ∷ xs) d a =
    let point = sum_point n x (λ i. cond (has i xs) 0 (g i)) (λ i. cond (eqb i x || has i xs) 0 (g i)) a.0 (λ i h e. other i e) in
    omega (arith, sum_rest n g xs d.1 a.1, point, gone, left)
  where
    other : (i : ℕ) → (i ≡ x → ⊥) → cond (has i xs) 0 (g i) ≡ cond (eqb i x || has i xs) 0 (g i)
    other i e = rw (ne_eqb i x e) refl

    gone : cond (eqb x x || has x xs) 0 (g x) ≡ 0
    gone = rw (eq-eqb x x refl) refl

    left : cond (has x xs) 0 (g x) ≡ g x
    left = rw d.0 refl

pub sum_ordered : (n : ℕ) (order : List ℕ) → Numbered n order → (g : ℕ → ℕ) → sum_of n (λ j. g (old_of order j)) ≡ sum_of n g
sum_ordered n order p g =
    let e : sum_of n (λ j. g (old_of order j)) ≡ sum_in g order = ap (λ (m : ℕ). sum_of m (λ j. g (old_of order j))) (sym p.len) ∙ sum_list g order in
    omega (arith, e, sum_rest n g order p.apart p.within, sum_none n (lacking g order) (λ i h. unfold lacking in rw (p.each i h) refl))
