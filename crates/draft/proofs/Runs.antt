-- A run of tests that all must pass, as a loop makes them, and as a rule of refusals says it.
use Prim.Native.Nat.{ℕ, zero, suc, ◌+◌, ◌≤◌, ◌<◌}
use mathlib.Core.Path.{◌≡◌, refl, sym, ◌∙◌}
use mathlib.Core.List.{List}
use mathlib.Core.Bool.{Bool, true, false, not, ◌&&◌, true≢false}
use native.Mathlib.Omega.{arith}
use borrow.Author.Tests.{not-true, not-false, eq-eqb, ne_eqb}
use Rattle.laws.specs.Refusal.{unless, counts_as, passes, ◌▸◌, first_of}
use Rattle.laws.specs.Counted.{all_of}
use Rattle.laws.proofs.First.{first_all}
use Rattle.laws.proofs.Flags.{all_next, all_fails}
use Rattle.texts.specs.Text.{rising}

-- ---- the loop

pub all_starts : (t : ℕ → Bool) → all_of 0 t ≡ true
unfolding all_of
all_starts t = refl

module _ (n : ℕ) (b : Bool) (t : ℕ → Bool) (e : b ≡ t n) where
  pub all_stops : (m : ℕ) → n < m → not b ≡ true → false ≡ all_of m t
  all_stops m h q = sym (all_fails m t n h (sym e ∙ not-true b q))

  pub all_goes : all_of n t ≡ true → not b ≡ false → all_of (n + 1) t ≡ true
  all_goes p q = all_next n t p (sym e ∙ not-false b q)

pub all_ends : (m n : ℕ) (t : ℕ → Bool) → n ≤ m → m ≤ n → all_of n t ≡ true → true ≡ all_of m t
all_ends m n t h k p = let e : n ≡ m = omega arith in sym (rw e at p)

-- ---- rules

pub as_passes : (k x : ℕ) → counts_as k x ≡ unless (passes x) k
unfolding counts_as unless
as_passes k zero = refl
as_passes k (suc x) = rw (ne_eqb (suc x) 0 (λ e. omega arith)) refl

pub passes-unless : (t : Bool) (k : ℕ) → passes (unless t (suc k)) ≡ t
unfolding unless
passes-unless true k = refl
passes-unless false k = ne_eqb (suc k) 0 (λ e. omega arith)

pub passes-both : (a b : ℕ) → passes (a ▸ b) ≡ (passes a && passes b)
unfolding ◌▸◌
passes-both zero b = refl
passes-both (suc a) b = rw (ne_eqb (suc a) 0 (λ e. omega arith)) refl

pub passes_all : (n : ℕ) (t : ℕ → Bool) (f : ℕ → ℕ) → ((j : ℕ) → j < n → t j ≡ passes (f j)) → all_of n t ≡ passes (first_of n f)
unfolding all_of first_of
passes_all zero t f e = refl
passes_all (suc n) t f e = rw (passes_all n t f (λ j h. e j (omega arith)), e n (omega arith)) (sym (passes-both (first_of n f) (f n)))

-- a loop that stops at n, before m, with a rule that is broken
pub passes-stops : (m n : ℕ) (f : ℕ → ℕ) (b : Bool) → n < m → b ≡ passes (f n) → not b ≡ true → false ≡ passes (first_of m f)
passes-stops m n f b h e q = sym (ne_eqb (first_of m f) 0 (λ z. true≢false (sym (e ∙ eq-eqb (f n) 0 (first_all m f z n h)) ∙ not-true b q)))

pub unless-both : (a b : Bool) (k : ℕ) → (unless a (suc k) ▸ unless b (suc k)) ≡ unless (a && b) (suc k)
unfolding unless ◌▸◌
unless-both true b k = refl
unless-both false b k = refl

pub unless_all : (n k : ℕ) (t : ℕ → Bool) → first_of n (λ j. unless (t j) (suc k)) ≡ unless (all_of n t) (suc k)
unfolding all_of first_of
unless_all zero k t = unfold unless in refl
unless_all (suc n) k t = rw (unless_all n k t) (unless-both (all_of n t) (t n) k)

-- ---- texts that are the same up to an entry

pub rising-upto : (t u : ℕ → List ℕ) (j : ℕ) → ((k : ℕ) → k ≤ j → t k ≡ u k) → rising t j ≡ rising u j
rising-upto t u zero e = refl
rising-upto t u (suc j) e = rw (e j (omega arith), e (suc j) (omega arith))
