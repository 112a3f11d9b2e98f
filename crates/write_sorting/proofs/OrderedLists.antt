-- Lists in order: a sort gives one, and leaves one as it is.
use Prim.Native.Nat.{ℕ, suc, ◌-◌, ◌≤◌, ◌<◌}
use mathlib.Core.Path.{◌≡◌, refl, sym, ap, ap₂, ◌∙◌}
use mathlib.Core.List.{List, [], ◌∷◌, ◌++◌, append-nil}
use mathlib.Core.Bool.{Bool, true, false, not}
use native.Mathlib.Omega.{arith}
use native.Mathlib.Decide.{ℕ_discrete}
use lib.ListN.{length, get_or, take}
use lib.Seq.{get_or-take, length-take-le}
use borrow.Author.Tests.{not-true}
use Rattle.std.specs.List.{list_all, range_with_len}
use Rattle.laws.specs.Sorted.{insert, isort}
use Rattle.laws.proofs.Members.{All}
use Rattle.laws.proofs.Sorted.{all_insert}
use Rattle.write_sorting.specs.Sorted.{merge, Strict, Rises, Ordered}
use Rattle.draft.proofs.Ranges.{each-in_range}
use Rattle.write_sorting.proofs.Laws.{cases, differ, merge_nil, merge_step}
use Rattle.write_sorting.proofs.ListProperties.{Pairs, all_map, at_all, pairs_at, at_pairs, chain}

module _ (lt : ℕ → ℕ → Bool) (S : Strict lt) where
  -- y is not above z
  abbrev pub Low : ℕ → ℕ → Type 0
  Low y z = lt z y ≡ false

  pub low_trans : (x y z : ℕ) → Low x y → Low y z → Low x z
  low_trans x y z p q = cases (lt z x) (λ e. differ (sym (S.apart z x y e p) ∙ q)) (λ e. e)

  pub less_low : (x y : ℕ) → lt x y ≡ true → Low x y
  less_low x y e = cases (lt y x) (λ f. differ (sym (S.trans x y x e f) ∙ S.self x)) (λ f. f)

  low_insert : (x : ℕ) (l : List ℕ) → Pairs Low l → Pairs Low (insert lt x l)
  unfolding insert
  low_insert x [] s = (tt, tt)
  low_insert x (y ∷ ys) s =
      cases (lt y x)
      (λ e. rw e (all_insert lt (Low y) x ys (less_low y x e) s.0, low_insert x ys s.1))
      (λ e. rw e ((e, all_map (λ z. low_trans x y z e) ys s.0), s))

  pub low_isort : (l : List ℕ) → Pairs Low (isort lt l)
  unfolding isort
  low_isort [] = tt
  low_isort (x ∷ xs) = low_insert x (isort lt xs) (low_isort xs)

  pub ordered-isort : (l : List ℕ) → Ordered lt (isort lt l)
  ordered-isort l = pairs_at Low (isort lt l) (low_isort l)

  insert-front : (x : ℕ) (l : List ℕ) → All (Low x) l → insert lt x l ≡ x ∷ l
  unfolding insert
  insert-front x [] a = refl
  insert-front x (y ∷ l) a = rw a.0

  isort_low : (l : List ℕ) → Pairs Low l → isort lt l ≡ l
  unfolding isort
  isort_low [] s = refl
  isort_low (x ∷ xs) s = ap (insert lt x) (isort_low xs s.1) ∙ insert-front x xs s.0

  -- a list in order is its own sort
  pub isort-ordered : (l : List ℕ) → Ordered lt l → isort lt l ≡ l
  isort-ordered l o = isort_low l (at_pairs Low l o)

  pub rises_pairs : (l : List ℕ) → Rises lt l → Pairs (λ a b. lt a b ≡ true) l
  rises_pairs l r = chain (λ a b. lt a b ≡ true) S.trans l r

  pub rises-ordered : (l : List ℕ) → Rises lt l → Ordered lt l
  rises-ordered l r i j h k = less_low (get_or l i 0) (get_or l j 0) (pairs_at (λ a b. lt a b ≡ true) l (rises_pairs l r) i j h k)

  pub isort-rises : (l : List ℕ) → Rises lt l → isort lt l ≡ l
  isort-rises l r = isort-ordered l (rises-ordered l r)

  -- ---- two lists that stand in order need no merge

  merge_low : (y : ℕ) (a ys : List ℕ) → All (λ x. Low x y) a → merge lt a (y ∷ ys) ≡ a ++ (y ∷ ys)
  unfolding merge
  merge_low y [] ys l = refl
  merge_low y (x ∷ xs) ys l = rw (merge_step lt x xs y ys, l.0) (ap (λ (r : List ℕ). x ∷ r) (merge_low y xs ys l.1))

  -- the last of the left is not above the first of the right
  pub merge-ordered : (a b : List ℕ) (m : ℕ) → suc m ≡ length a → Ordered lt a → lt (get_or b 0 0) (get_or a m 0) ≡ false → merge lt a b ≡ a ++ b
  unfolding merge
  merge-ordered [] b m e o h = refl
  merge-ordered (x ∷ xs) [] m e o h = merge_nil lt (x ∷ xs) ∙ sym (append-nil (x ∷ xs))
  merge-ordered (x ∷ xs) (y ∷ ys) m e o h = merge_low y (x ∷ xs) ys (at_all (λ z. Low z y) (x ∷ xs) each)
    where
      each : (i : ℕ) → i < length (x ∷ xs) → Low (get_or (x ∷ xs) i 0) y
      each i k =
          elim (ℕ_discrete i m) [
            | yes q ↦ rw q h
            | no d ↦ low_trans (get_or (x ∷ xs) i 0) (get_or (x ∷ xs) m 0) y (o i m (omega arith) (omega arith)) h
          ]

-- ---- a list looked through

-- of the first n elements none is below the one before it
pub neighbours-ordered : (lt : ℕ → ℕ → Bool) → Strict lt → (l : List ℕ) (n : ℕ) → n ≤ length l
    → list_all (λ i. not (lt (get_or l i 0) (get_or l (i - 1) 0))) (range_with_len 1 (n - 1)) ≡ true → Ordered lt (take n l)
neighbours-ordered lt S l n m e =
    let long = length-take-le n l m in
    pairs_at (Low lt S) (take n l)
    (chain (Low lt S) (low_trans lt S) (take n l)
    (λ k q.
    let before : suc k - 1 ≡ k = omega arith in
    let low = not-true _ (each-in_range (λ i. not (lt (get_or l i 0) (get_or l (i - 1) 0))) 1 (n - 1) e (suc k) (omega arith) (omega (arith, long))) in
    ap₂ lt (get_or-take n l (suc k) 0 (omega (arith, long))) (get_or-take n l k 0 (omega (arith, long)))
    ∙ (rw before at low)))
