-- A run of rules: the loop that passes them one by one (`first-broken` and `first_done` of Chains end it), and rules that refuse alike.
use Prim.Native.Nat.{ℕ, zero, suc, ◌+◌}
use mathlib.Core.Path.{◌≡◌, refl, sym, ◌∙◌}
use native.Mathlib.Numerals.{add-one}
use Rattle.laws.specs.Refusal.{first_of}
use Rattle.laws.specs.Counted.{sum_of}
use Rattle.laws.proofs.First.{first_next}

pub run_starts : (f : ℕ → ℕ) → first_of 0 f ≡ 0
unfolding first_of
run_starts f = refl

pub sum_starts : (f : ℕ → ℕ) → sum_of 0 f ≡ 0
unfolding sum_of
sum_starts f = refl

-- the loop has passed n rules, and passes one more
pub run_goes : (n r : ℕ) (f : ℕ → ℕ) → first_of n f ≡ 0 → r ≡ f n → r ≡ 0 → first_of (n + 1) f ≡ 0
run_goes n r f p q z = rw add-one (first_next n f p (sym q ∙ z))

pub first-like : (n : ℕ) (f g : ℕ → ℕ) → ((i : ℕ) → f i ≡ g i) → first_of n f ≡ first_of n g
unfolding first_of
first-like zero f g e = refl
first-like (suc n) f g e = rw (first-like n f g e, e n)

pub sum_like : (n : ℕ) (f g : ℕ → ℕ) → ((i : ℕ) → f i ≡ g i) → sum_of n f ≡ sum_of n g
unfolding sum_of
sum_like zero f g e = refl
sum_like (suc n) f g e = rw (sum_like n f g e, e n)
