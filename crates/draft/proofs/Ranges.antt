-- A test of every number of a range, as `all` over a range asks it.
use Prim.Native.Nat.{ℕ, zero, suc, ◌+◌, ◌-◌, ◌≤◌, ◌<◌}
use mathlib.Core.Path.{◌≡◌, refl, sym, ap, ◌∙◌}
use mathlib.Core.Bool.{Bool, true, false, true≢false}
use native.Mathlib.Omega.{arith}
use native.Mathlib.Decide.{ℕ_discrete, dec_lt}
use Rattle.std.specs.List.{list_all, range_with_len}
use Rattle.laws.specs.Counted.{all_of}
use Rattle.laws.proofs.Flags.{both_true, all_at, all_of_lem}

-- what it says of all, it says of each
pub each-in_range : (p : ℕ → Bool) (a n : ℕ) → list_all p (range_with_len a n) ≡ true → (i : ℕ) → a ≤ i → i < a + n → p i ≡ true
each-in_range p a zero e i h k = absurd (omega arith)
each-in_range p a (suc n) e i h k =
    let q = both_true (p a) (list_all p (range_with_len (a + 1) n)) e in
    elim (ℕ_discrete i a) [
      | yes r ↦ rw r q.0
      | no d ↦ each-in_range p (a + 1) n q.1 i (omega arith) (omega arith)
    ]

all-in_range : (p : ℕ → Bool) (a n : ℕ) → ((i : ℕ) → a ≤ i → i < a + n → p i ≡ true) → list_all p (range_with_len a n) ≡ true
all-in_range p a zero h = refl
all-in_range p a (suc n) h = rw (h a (omega arith) (omega arith)) (all-in_range p (a + 1) n (λ i k l. h i (omega arith) (omega arith)))

-- the numbers from a up to n, where those below a pass anyway
pub all_range : (p q : ℕ → Bool) (a n : ℕ) → ((i : ℕ) → i < a → q i ≡ true) → ((i : ℕ) → a ≤ i → i < n → p i ≡ q i)
    → list_all p (range_with_len a (n - a)) ≡ all_of n q
all_range p q a n low same = by (list_all p (range_with_len a (n - a))) (all_of n q) refl refl
  where
    each : list_all p (range_with_len a (n - a)) ≡ true → (i : ℕ) → i < n → q i ≡ true
    each e i h =
        elim (dec_lt i a) [
          | yes l ↦ low i l
          | no l ↦ sym (same i (omega arith) h) ∙ each-in_range p a (n - a) e i (omega arith) (omega arith)
        ]

    by : (b d : Bool) → list_all p (range_with_len a (n - a)) ≡ b → all_of n q ≡ d → b ≡ d
    by true true e f = refl
    by false false e f = refl
    by true false e f = absurd (true≢false (sym (all_of_lem n q (each e)) ∙ f))
    by false true e f =
        absurd (true≢false (sym (all-in_range p a (n - a) (λ i h k. same i h (omega arith) ∙ all_at n q f i (omega arith))) ∙ e))

-- the n numbers from a up, where the test is told by how far on a number stands
pub all_after : (p q : ℕ → Bool) (a n : ℕ) → ((i : ℕ) → i < n → p (a + i) ≡ q i) → list_all p (range_with_len a n) ≡ all_of n q
all_after p q a n same = by (list_all p (range_with_len a n)) (all_of n q) refl refl
  where
    each : list_all p (range_with_len a n) ≡ true → (i : ℕ) → i < n → q i ≡ true
    each e i h = sym (same i h) ∙ each-in_range p a n e (a + i) (omega arith) (omega arith)

    met : all_of n q ≡ true → (i : ℕ) → a ≤ i → i < a + n → p i ≡ true
    met f i h k =
        let z : i ≡ a + (i - a) = omega arith in
        ap p z ∙ same (i - a) (omega arith) ∙ all_at n q f (i - a) (omega arith)

    by : (b d : Bool) → list_all p (range_with_len a n) ≡ b → all_of n q ≡ d → b ≡ d
    by true true e f = refl
    by false false e f = refl
    by true false e f = absurd (true≢false (sym (all_of_lem n q (each e)) ∙ f))
    by false true e f = absurd (true≢false (sym (all-in_range p a n (met f)) ∙ e))
