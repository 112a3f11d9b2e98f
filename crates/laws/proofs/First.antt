-- Laws of refusals: what a loop that stops at the first refusal shows, and what 'nothing was refused' gives.
use Prim.Native.Nat.{ℕ, zero, suc, ◌+◌, ◌-◌, ◌<◌}
use mathlib.Core.Path.{◌≡◌, refl, ap, ◌∙◌, subst}
use mathlib.Core.Bool.{Bool, true, false}
use native.Mathlib.Omega.{arith}
use native.Mathlib.Nat.{not-suc-le-zero, add-suc, add-zero}
use native.Mathlib.Decide.{ℕ_discrete}
use Rattle.laws.specs.Refusal.{◌▸◌, first_of, unless, counts_as}

-- ---- two rules

pub both : (a b : ℕ) → (a ▸ b) ≡ 0 → (a ≡ 0) × (b ≡ 0)
unfolding ◌▸◌
both zero b p = (refl, p)
both (suc a) b p = absurd (omega arith)

pub then : (a b : ℕ) → a ≡ 0 → b ≡ 0 → (a ▸ b) ≡ 0
unfolding ◌▸◌
then a b p q = rw (p, q) refl

-- the first passed: the second decides
pub second : (a b : ℕ) → a ≡ 0 → (a ▸ b) ≡ b
unfolding ◌▸◌
second a b p = rw p refl

-- the first refused
pub first : (a b r : ℕ) → a ≡ suc r → (a ▸ b) ≡ suc r
unfolding ◌▸◌
first a b r p = rw p refl

-- ---- a test

pub passed : (t : Bool) (k : ℕ) → unless t (suc k) ≡ 0 → t ≡ true
unfolding unless
passed true k p = refl
passed false k p = absurd (omega arith)

pub pass : (t : Bool) (k : ℕ) → t ≡ true → unless t k ≡ 0
unfolding unless
pass t k p = rw p refl

pub fail : (t : Bool) (k : ℕ) → t ≡ false → unless t k ≡ k
unfolding unless
fail t k p = rw p refl

pub as_zero : (k r : ℕ) → counts_as (suc k) r ≡ 0 → r ≡ 0
unfolding counts_as
as_zero k zero p = refl
as_zero k (suc r) p = absurd (omega arith)

pub zero_as : (k r : ℕ) → r ≡ 0 → counts_as k r ≡ 0
unfolding counts_as
zero_as k r p = rw p refl

-- ---- a run of rules

-- one more that passes
pub first_next : (n : ℕ) (f : ℕ → ℕ) → first_of n f ≡ 0 → f n ≡ 0 → first_of (suc n) f ≡ 0
unfolding first_of ◌▸◌
first_next n f p q = rw (p, q) refl

stays_one : (n r : ℕ) (f : ℕ → ℕ) → first_of n f ≡ suc r → first_of (suc n) f ≡ suc r
unfolding first_of ◌▸◌
stays_one n r f p = rw p refl

-- a refusal stays the first, however many follow
pub first-stays : (k n r : ℕ) (f : ℕ → ℕ) → first_of n f ≡ suc r → first_of (n + k) f ≡ suc r
first-stays zero n r f p = rw add-zero p
first-stays (suc k) n r f p = rw add-suc (stays_one (n + k) r f (first-stays k n r f p))

-- the first refusal, at n
pub first-here : (n r : ℕ) (f : ℕ → ℕ) → first_of n f ≡ 0 → f n ≡ suc r → first_of (suc n) f ≡ suc r
unfolding first_of ◌▸◌
first-here n r f p q = rw (p, q) refl

-- a loop that stops at n, before m: its refusal is the first of all m
pub first_hit : (m n r : ℕ) (f : ℕ → ℕ) → n < m → first_of n f ≡ 0 → f n ≡ suc r → first_of m f ≡ suc r
first_hit m n r f h p q = subst (λ (x : ℕ). first_of x f ≡ suc r) (omega arith) (first-stays (m - suc n) (suc n) r f (first-here n r f p q))

-- where nothing is refused, each passes
pub first_all : (n : ℕ) (f : ℕ → ℕ) → first_of n f ≡ 0 → (i : ℕ) → i < n → f i ≡ 0
unfolding first_of
first_all zero f p i h = absurd (not-suc-le-zero h)
first_all (suc n) f p i h =
    elim (ℕ_discrete i n) [
      | yes e ↦ ap f e ∙ (both (first_of n f) (f n) p).1
      | no d ↦ first_all n f (both (first_of n f) (f n) p).0 i (omega arith)
    ]

-- and where each passes, nothing is refused
pub first_of_lem : (n : ℕ) (f : ℕ → ℕ) → ((i : ℕ) → i < n → f i ≡ 0) → first_of n f ≡ 0
unfolding first_of
first_of_lem zero f p = refl
first_of_lem (suc n) f p = then (first_of n f) (f n) (first_of_lem n f (λ i h. p i (omega arith))) (p n (omega arith))
