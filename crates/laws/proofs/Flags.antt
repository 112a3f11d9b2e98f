-- Laws of flags: of two, and of tests over the numbers below a count.
use Prim.Native.Nat.{ℕ, zero, suc, ◌+◌, ◌≤◌, ◌<◌}
use mathlib.Core.Path.{◌≡◌, refl, sym, ap, ◌∙◌}
use mathlib.Core.Logic.{⊎_elim}
use mathlib.Core.Bool.{Bool, true, false, ◌&&◌, true≢false}
use native.Mathlib.Omega.{arith}
use native.Mathlib.Nat.{not-suc-le-zero, eq-or-lt_of_le}
use native.Mathlib.Numerals.{add-one}
use native.Mathlib.Decide.{ℕ_discrete, dec_lt}
use borrow.Author.Tests.{eq-eqb, ne_eqb}
use lib.Dec.{eqb}
use lib.Bits.{bit_or, or_add_and, and_le_l, and_le_r}
use Rattle.laws.specs.Counted.{all_of}

-- ---- two flags

pub both_true : (a b : Bool) → (a && b) ≡ true → (a ≡ true) × (b ≡ true)
both_true true true h = (refl, refl)
both_true true false h = absurd (true≢false (sym h))
both_true false b h = absurd (true≢false (sym h))

pub and-false : (b : Bool) → (b && false) ≡ false
and-false true = refl
and-false false = refl

pub false-and : (a : Bool) → false ≡ (a && false)
false-and a = sym (and-false a)

pub true-and : (a : Bool) → a ≡ (a && true)
true-and true = refl
true-and false = refl

pub not-true-false : (b : Bool) → (b ≡ true → ⊥) → b ≡ false
not-true-false true h = absurd (h refl)
not-true-false false h = refl

-- ---- tests over a count

pub all_next : (n : ℕ) (t : ℕ → Bool) → all_of n t ≡ true → t n ≡ true → all_of (n + 1) t ≡ true
unfolding all_of
all_next n t h k = rw (add-one, h, k)

pub all_at : (n : ℕ) (t : ℕ → Bool) → all_of n t ≡ true → (k : ℕ) → k < n → t k ≡ true
unfolding all_of
all_at zero t h k l = absurd (not-suc-le-zero l)
all_at (suc n) t h k l =
    let both = both_true (all_of n t) (t n) h in
    elim (ℕ_discrete k n) [
      | yes e ↦ ap t e ∙ both.1
      | no d ↦ all_at n t both.0 k (omega arith)
    ]

pub all_fails : (n : ℕ) (t : ℕ → Bool) (k : ℕ) → k < n → t k ≡ false → all_of n t ≡ false
all_fails n t k l h = not-true-false (all_of n t) (λ a. true≢false (sym (all_at n t a k l) ∙ h))

pub all_of_lem : (n : ℕ) (t : ℕ → Bool) → ((k : ℕ) → k < n → t k ≡ true) → all_of n t ≡ true
unfolding all_of
all_of_lem zero t h = refl
all_of_lem (suc n) t h = rw (all_of_lem n t (λ k l. h k (omega arith)), h n (omega arith))

-- ---- numbers

-- two numbers have no bit set where neither has one
pub or_zero : (a b : ℕ) → eqb (bit_or a b) 0 ≡ (eqb a 0 && eqb b 0)
or_zero a b =
    elim (dec_lt 0 a) [
      | yes h ↦ rw (ne_eqb a 0 (λ e. omega arith), ne_eqb (bit_or a b) 0 (λ e. omega (arith, or_add_and a b, and_le_r a b)))
      | no h ↦
          elim (dec_lt 0 b) [
            | yes k ↦ rw (ne_eqb b 0 (λ e. omega arith), ne_eqb (bit_or a b) 0 (λ e. omega (arith, or_add_and a b, and_le_l a b))) (sym (and-false (eqb a 0)))
            | no k ↦ rw (eq-eqb a 0 (omega arith), eq-eqb b 0 (omega arith), eq-eqb (bit_or a b) 0 (omega (arith, or_add_and a b)))
          ]
    ]

-- a number that is at least k, and not k
pub up : (k n : ℕ) → k ≤ n → (n ≡ k → ⊥) → suc k ≤ n
up k n h d = ⊎_elim (λ e. absurd (d (sym e))) (λ l. l) (eq-or-lt_of_le h)
