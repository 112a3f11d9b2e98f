-- Laws of counting: to whom a unit of a sum belongs, and that different numbers of some weight are at most as many as all weigh.
use Prim.Native.Nat.{ℕ, zero, suc, ◌+◌, ◌-◌, ◌≤◌, ◌<◌, zero-le}
use mathlib.Core.Path.{◌≡◌, refl, sym, ap, ◌∙◌}
use mathlib.Core.Logic.{◌≢◌, ◌⊎◌, inl, inr}
use mathlib.Core.Bool.{cond}
use native.Mathlib.Omega.{arith}
use native.Mathlib.Nat.{not-suc-le-zero}
use native.Mathlib.Decide.{ℕ_discrete, dec_lt}
use lib.Dec.{eqb}
use borrow.Author.Tests.{eq-eqb, ne_eqb}
use Rattle.laws.specs.Counted.{sum_of}
use Rattle.laws.proofs.Members.{sum_point}

-- ---- owners

-- unit j of the sum of g belongs to number `at`, at a place among its own
pub record Owner (n : ℕ) (g : ℕ → ℕ) (j : ℕ) : Type 0 where
  pub at : ℕ
  pub at_below : at < n
  pub place : ℕ
  pub place-below : place < g at
  pub there : j ≡ sum_of at g + place

pub owner : (n : ℕ) (g : ℕ → ℕ) (j : ℕ) → j < sum_of n g → Owner n g j
unfolding sum_of
owner zero g j h = absurd (not-suc-le-zero h)
owner (suc n) g j h = by (dec_lt j (sum_of n g)) (owner n g j)
  where
    by : Dec (j < sum_of n g) → (j < sum_of n g → Owner n g j) → Owner (suc n) g j
    by (yes k) r =
        let o = r k in
        record { at = o.at; at_below = omega (arith, o.at_below); place = o.place; place-below = o.place-below; there = o.there }
    by (no d) r = record { at = n; at_below = omega arith; place = j - sum_of n g; place-below = omega arith; there = omega arith }

-- ---- different numbers

-- the weights without that of i
unfoldable pub minus : (ℕ → ℕ) → ℕ → ℕ → ℕ
minus w i x = cond (eqb x i) 0 (w x)

minus-self : (w : ℕ → ℕ) (i : ℕ) → minus w i i ≡ 0
unfolding minus
minus-self w i = rw (eq-eqb i i refl)

minus-other : (w : ℕ → ℕ) (i x : ℕ) → x ≢ i → minus w i x ≡ w x
unfolding minus
minus-other w i x d = rw (ne_eqb x i d)

pub sum_minus : (n : ℕ) (w : ℕ → ℕ) (i : ℕ) → i < n → sum_of n (minus w i) + w i ≡ sum_of n w
sum_minus n w i h = omega (arith, sum_point n i (minus w i) w h (λ j k d. minus-other w i j d), minus-self w i)

abbrev pub Different : ℕ → (ℕ → ℕ) → Type 0
Different c t = (j k : ℕ) → j < c → k < c → t j ≡ t k → j ≡ k

-- c different numbers below n, each of some weight, are at most as many as all numbers below n weigh
pub weigh : (n c : ℕ) (w t : ℕ → ℕ) → ((j : ℕ) → j < c → t j < n) → ((j : ℕ) → j < c → 0 < w (t j)) → Different c t → c ≤ sum_of n w
weigh n zero w t b p d = zero-le
weigh n (suc c) w t b p d =
    let rest = weigh n c (minus w (t c)) t (λ j h. b j (omega arith)) heavy (λ j k h l e. d j k (omega arith) (omega arith) e) in
    omega (arith, sum_minus n w (t c) (b c (omega arith)), p c (omega arith))
  where
    heavy : (j : ℕ) → j < c → 0 < minus w (t c) (t j)
    heavy j h =
        let apart : t j ≢ t c = λ e. omega (arith, d j c (omega arith) (omega arith) e) in
        rw (minus-other w (t c) (t j) apart) (p j (omega arith))

-- ---- a number among those of a list by its places

pub record Hit (c : ℕ) (t : ℕ → ℕ) (i : ℕ) : Type 0 where
  pub at : ℕ
  pub below : at < c
  pub holds : t at ≡ i

pub hit_or_none : (c : ℕ) (t : ℕ → ℕ) (i : ℕ) → Hit c t i ⊎ ((j : ℕ) → j < c → t j ≢ i)
hit_or_none zero t i = inr (λ j h. absurd (not-suc-le-zero h))
hit_or_none (suc c) t i = by (ℕ_discrete (t c) i) (hit_or_none c t i)
  where
    by : Dec (t c ≡ i) → Hit c t i ⊎ ((j : ℕ) → j < c → t j ≢ i) → Hit (suc c) t i ⊎ ((j : ℕ) → j < suc c → t j ≢ i)
    by (yes e) r = inl (record { at = c; below = omega arith; holds = e })
    by (no d) (inl h) = inl (record { at = h.at; below = omega (arith, h.below); holds = h.holds })
    by (no d) (inr g) = inr none
      where
        none : (j : ℕ) → j < suc c → t j ≢ i
        none j h e = elim (ℕ_discrete j c) [
          | yes q ↦ d (ap t (sym q) ∙ e)
          | no q ↦ g j (omega arith) e
        ]

-- as many different numbers as all weigh: each of weight 1 is among them
pub each_hit : (n c : ℕ) (w t : ℕ → ℕ) → ((j : ℕ) → j < c → t j < n) → ((j : ℕ) → j < c → 0 < w (t j)) → Different c t → sum_of n w ≡ c
    → (i : ℕ) → i < n → w i ≡ 1 → Hit c t i
each_hit n c w t b p d whole i h one = by (hit_or_none c t i)
  where
    by : Hit c t i ⊎ ((j : ℕ) → j < c → t j ≢ i) → Hit c t i
    by (inl q) = q
    by (inr g) =
        let rest : c ≤ sum_of n (minus w i) = weigh n c (minus w i) t b (λ j k. rw (minus-other w i (t j) (g j k)) (p j k)) d in
        absurd (omega (arith, sum_minus n w i h))
