-- The length of a path, one step up at a time.
use Prim.Native.Nat.{ℕ, zero, suc, ◌+◌, ◌-◌, ◌<◌}
use mathlib.Core.Path.{◌≡◌, refl, sym, ap, ◌∙◌}
use mathlib.Core.List.{List}
use native.Mathlib.Omega.{arith}
use native.Mathlib.Decide.{ℕ_discrete}
use borrow.Author.Tests.{eq-eqb, ne_eqb}
use Rattle.draft.specs.Source.{word_of}
use Rattle.write_text_keys.specs.Keys.{piece_length, joined_length, length_below, length_from}

joined-below : (parent front last : ℕ) → (parent ≡ 0 → ⊥) → joined_length parent front last ≡ front + (1 + last)
joined-below zero front last h = absurd (h refl)
joined-below (suc parent) front last h = refl

module _ (v : ℕ) (nodes : List ℕ) where
  -- ---- by the length of the path above

  module _ (front x : ℕ) where
    pub below_root : x ≡ 0 → length_below front v nodes x ≡ 0
    unfolding length_below
    below_root e = rw (eq-eqb x 0 e)

    module _ (away : x ≡ 0 → ⊥) where
      below-joined : length_below front v nodes x ≡ joined_length (word_of v nodes x 0) front (piece_length v nodes x)
      unfolding length_below
      below-joined = rw (ne_eqb x 0 away)

      -- below the root
      pub below_top : word_of v nodes x 0 ≡ 0 → length_below front v nodes x ≡ piece_length v nodes x
      below_top e = below-joined ∙ rw e

      -- further down
      pub below_dot : (word_of v nodes x 0 ≡ 0 → ⊥) → length_below front v nodes x ≡ front + (1 + piece_length v nodes x)
      below_dot d = below-joined ∙ joined-below (word_of v nodes x 0) front (piece_length v nodes x) d

  -- ---- by steps up to the root

  pub length-root : (n x : ℕ) → x ≡ 0 → length_from n v nodes x ≡ 0
  unfolding length_from length_below
  length-root zero x e = refl
  length-root (suc n) x e = rw (eq-eqb x 0 e)

  pub length-step : (n x : ℕ) → 0 < n → (x ≡ 0 → ⊥)
      → length_from n v nodes x ≡ joined_length (word_of v nodes x 0) (length_from (n - 1) v nodes (word_of v nodes x 0)) (piece_length v nodes x)
  unfolding length_from length_below
  length-step n x some away = by n some
    where
      by : (k : ℕ) → 0 < k → length_from k v nodes x ≡ joined_length (word_of v nodes x 0) (length_from (k - 1) v nodes (word_of v nodes x 0)) (piece_length v nodes x)
      by zero h = absurd (omega arith)
      by (suc k) h =
          let e : k ≡ suc k - 1 = omega arith in
          rw (ne_eqb x 0 away, ← e)

  -- the one from the other
  pub length-next : (n x front : ℕ) → 0 < n → ((x ≡ 0 → ⊥) → front ≡ length_from (n - 1) v nodes (word_of v nodes x 0))
      → length_below front v nodes x ≡ length_from n v nodes x
  length-next n x front some above = by (ℕ_discrete x 0)
    where
      by : Dec (x ≡ 0) → length_below front v nodes x ≡ length_from n v nodes x
      by (yes e) = below_root front x e ∙ sym (length-root n x e)
      by (no d) =
          below-joined front x d
          ∙ ap (λ (k : ℕ). joined_length (word_of v nodes x 0) k (piece_length v nodes x)) (above d)
          ∙ sym (length-step n x some d)
