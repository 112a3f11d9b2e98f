-- Chains of rules and runs of rules, one step at a time, by the test that the code made.
use Prim.Native.Nat.{ℕ, zero, suc, ◌≤◌, ◌<◌}
use mathlib.Core.Path.{◌≡◌, refl, sym, ◌∙◌}
use mathlib.Core.Bool.{Bool, true, false, not, true≢false}
use native.Mathlib.Omega.{arith}
use lib.Dec.{leb, eqb}
use borrow.Author.Tests.{eq-eqb, ne_eqb, not-true, not-false}
use Rattle.laws.specs.Refusal.{unless, ◌▸◌, first_of}
use Rattle.laws.proofs.First.{first, second, pass, fail, first_hit}

-- ---- a chain of rules

-- the next rule is broken: r is the flag that the test gave
pub stop : (t r : Bool) (k b : ℕ) → leb 1 k ≡ true → r ≡ t → not r ≡ true → k ≡ (unless t k ▸ b)
stop t r zero b p e h = absurd (true≢false (sym p))
stop t r (suc k) b p e h = sym (first (unless t (suc k)) b k (fail t (suc k) (sym e ∙ not-true r h)))

-- it is kept: what follows decides
pub go : (t r : Bool) (k b v : ℕ) → r ≡ t → not r ≡ false → v ≡ b → v ≡ (unless t k ▸ b)
go t r k b v e h q = q ∙ sym (second (unless t k) b (pass t k (sym e ∙ not-false r h)))

pub stop-last : (t r : Bool) (k : ℕ) → r ≡ t → not r ≡ true → k ≡ unless t k
stop-last t r k e h = sym (fail t k (sym e ∙ not-true r h))

pub go_last : (t r : Bool) (k : ℕ) → r ≡ t → not r ≡ false → 0 ≡ unless t k
go_last t r k e h = sym (pass t k (sym e ∙ not-false r h))

-- the test is whether two numbers are equal
pub stop_unequal : (x y k b : ℕ) → leb 1 k ≡ true → (x ≡ y → ⊥) → k ≡ (unless (eqb x y) k ▸ b)
stop_unequal x y k b p d = stop (eqb x y) false k b p (sym (ne_eqb x y d)) refl

pub go_equal : (x y k b v : ℕ) → x ≡ y → v ≡ b → v ≡ (unless (eqb x y) k ▸ b)
go_equal x y k b v e q = go (eqb x y) true k b v (sym (eq-eqb x y e)) refl q

pub skip : (b : ℕ) → (0 ▸ b) ≡ b
unfolding ◌▸◌
skip b = refl

pub last : (a : ℕ) → (a ▸ 0) ≡ a
unfolding ◌▸◌
last zero = refl
last (suc a) = refl

-- a number that a rule gave, where it is a refusal
pub refused : (a b r : ℕ) → r ≡ a → (r ≡ 0 → ⊥) → r ≡ (a ▸ b)
refused a b zero e h = absurd (h refl)
refused a b (suc r) e h = sym (first a b r (sym e))

-- ---- a run of rules

-- a loop that stops at n, before m, with a refusal
pub first-broken : (m n r : ℕ) (f : ℕ → ℕ) → n < m → first_of n f ≡ 0 → r ≡ f n → (r ≡ 0 → ⊥) → r ≡ first_of m f
first-broken m n zero f h p e d = absurd (d refl)
first-broken m n (suc r) f h p e d = sym (first_hit m n r f h p (sym e))

-- a loop that has passed all
pub first_done : (m n : ℕ) (f : ℕ → ℕ) → n ≤ m → m ≤ n → first_of n f ≡ 0 → 0 ≡ first_of m f
first_done m n f h k p = let e : m ≡ n = omega arith in rw e (sym p)
