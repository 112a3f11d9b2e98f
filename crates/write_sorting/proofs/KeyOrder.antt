-- A list sorted by keys: its neighbours rise where no two keys are one.
use Prim.Native.Nat.{ℕ, suc, ◌<◌}
use mathlib.Core.Path.{◌≡◌, sym, ◌∙◌}
use mathlib.Core.Logic.{◌⊎◌, inl, inr, ⊎_elim}
use mathlib.Core.List.{List, [], ◌∷◌}
use mathlib.Core.Bool.{true, false}
use native.Mathlib.Omega.{arith}
use lib.ListN.{length, get_or}
use Rattle.laws.specs.Sorted.{isort}
use Rattle.laws.proofs.Members.{All}
use Rattle.laws.proofs.Sorted.{length-isort}
use Rattle.texts.specs.Text.{same, by_key}
use Rattle.texts.proofs.Text.{before-unlike, unlike-before, same-equal, same-unlike}
use Rattle.write_sorting.specs.Sorted.{Rises, Unlike, Twice}
use Rattle.write_sorting.proofs.Laws.{cases, differ, key_strict}
use Rattle.write_sorting.proofs.ListProperties.{Pairs, pairs_at, at_pairs, pairs_isort, isort_pairs}
use Rattle.write_sorting.proofs.OrderedLists.{ordered-isort, rises_pairs}

module _ (key : ℕ → List ℕ) where
  abbrev Apart : ℕ → ℕ → Type 0
  Apart a b = key a ≡ key b → ⊥

  apart-turn : (a b : ℕ) → Apart a b → Apart b a
  apart-turn a b d e = d (sym e)

  -- ---- neighbours

  -- where the neighbours of the sorted list rise, no two keys are one
  pub rises-unlike : (l : List ℕ) → Rises (by_key key) (isort (by_key key) l) → Unlike key l
  rises-unlike l r = pairs_at Apart l (isort_pairs (by_key key) Apart apart-turn l (at_pairs Apart (isort (by_key key) l) apart))
    where
      apart : (i j : ℕ) → i < j → j < length (isort (by_key key) l) → Apart (get_or (isort (by_key key) l) i 0) (get_or (isort (by_key key) l) j 0)
      apart i j h k =
          before-unlike (key (get_or (isort (by_key key) l) i 0)) (key (get_or (isort (by_key key) l) j 0))
          (pairs_at (λ a b. by_key key a b ≡ true) (isort (by_key key) l) (rises_pairs (by_key key) (key_strict key) (isort (by_key key) l) r) i j h k)

  pub unlike-rises : (l : List ℕ) → Unlike key l → Rises (by_key key) (isort (by_key key) l)
  unlike-rises l u i h =
      ⊎_elim (λ p. p) (λ p. differ (sym p ∙ ordered-isort (by_key key) (key_strict key) l i (suc i) (omega arith) h))
      (unlike-before (key (get_or (isort (by_key key) l) i 0)) (key (get_or (isort (by_key key) l) (suc i) 0))
      (pairs_at Apart (isort (by_key key) l) (pairs_isort (by_key key) Apart apart-turn l (at_pairs Apart l u)) i (suc i) (omega arith) h))

  -- no element has this key, or one does
  none_or : (t : List ℕ) (l : List ℕ) → All (λ x. t ≡ key x → ⊥) l ⊎ ((j : ℕ) × (j < length l) × (t ≡ key (get_or l j 0)))
  none_or t [] = inl tt
  none_or t (x ∷ xs) =
      cases (same t (key x))
      (λ e. inr (0, omega arith, same-equal t (key x) e))
      (λ e. ⊎_elim (λ a. inl (same-unlike t (key x) e, a)) (λ f. inr (suc f.0, omega (arith, f.1), f.2)) (none_or t xs))

  all_or : (l : List ℕ) → Pairs Apart l ⊎ Twice key l
  all_or [] = inl tt
  all_or (x ∷ xs) =
      ⊎_elim
      (λ a. ⊎_elim (λ s. inl (a, s)) (λ t. inr (record { first = suc t.first; second = suc t.second; later = omega (arith, t.later); within = omega (arith, t.within); alike = t.alike })) (all_or xs))
      (λ f. inr (record { first = 0; second = suc f.0; later = omega arith; within = omega (arith, f.1); alike = f.2 }))
      (none_or (key x) xs)

  -- where two neighbours of the sorted list do not rise, two keys are one
  pub level_twice : (l : List ℕ) (i : ℕ) → suc i < length l → by_key key (get_or (isort (by_key key) l) i 0) (get_or (isort (by_key key) l) (suc i) 0) ≡ false → Twice key l
  level_twice l i h e =
      ⊎_elim
      (λ s. differ (sym (unlike-rises l (pairs_at Apart l s) i (omega (arith, length-isort (by_key key) l))) ∙ e))
      (λ t. t)
      (all_or l)
