-- Tests by the count of a draft's nodes, which the code has as a number.
use Prim.Native.Nat.{ℕ, ◌≤◌, ◌<◌}
use mathlib.Core.Path.{◌≡◌, sym, ap, subst, ◌∙◌}
use mathlib.Core.Bool.{Bool, true}
use Rattle.image.specs.Sections.{inside_among}
use Rattle.image.proofs.Tests.{inside-true}

module _ (count n : ℕ) (e : count ≡ n) where
  pub below-count : (i : ℕ) → i < count → i < n
  below-count i h = subst (λ (k : ℕ). i < k) e h

  pub upto-count : (i : ℕ) → i ≤ count → i ≤ n
  upto-count i h = subst (λ (k : ℕ). i ≤ k) e h

  pub past-count : (i : ℕ) → count ≤ i → n ≤ i
  past-count i h = subst (λ (k : ℕ). k ≤ i) e h

  pub among-count : (x : ℕ) (b : Bool) → b ≡ inside_among count x → b ≡ inside_among n x
  among-count x b q = q ∙ ap (λ (k : ℕ). inside_among k x) e

  -- a number that is a node's
  pub among_below : (x : ℕ) (b : Bool) → b ≡ inside_among count x → b ≡ true → x < n
  among_below x b q t = (inside-true n x (sym (among-count x b q) ∙ t)).0
