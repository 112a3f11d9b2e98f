-- The work words lent for a call on a draft, and given back cleared.
use Rattle.std.specs.Prelude.{None, Option, Some, ℕ}
use Prim.Native.Nat.{ℕ, ◌≤◌, ◌<◌}
use mathlib.Core.Path.{◌≡◌, refl, sym, ap, ◌∙◌}
use mathlib.Core.List.{List, ◌++◌}
use mathlib.Core.Bool.{Bool, true, false, cond}
use native.Mathlib.Omega.{arith}
use lib.ListN.{length, take, drop, replicate, length-append}
use lib.Dec.{leb}
use borrow.Author.Tests.{leb-false}
use lib.Seq.{length-take-le, drop_at}
use Rattle.draft.specs.Needs.{needed_of}
use Rattle.draft.proofs.WorkWords.{needed-words}

-- ---- how many are needed

tag : Option ℕ → ℕ
tag (Some n) = 0
tag None = 1

pub few_words : (needed work : ℕ) (a : Option ℕ) → a ≡ needed_of needed work → a ≡ None → work < needed
unfolding needed_of tag
few_words needed work a e q = go (leb needed work) refl (sym q ∙ e)
  where
    go : (b : Bool) → leb needed work ≡ b → None ≡ cond b (Some needed) None → work < needed
    go true h f = let z : ◌≡◌ {A = ℕ} 1 0 = ap {B = ℕ} tag f in absurd (omega arith)
    go false h f = leb-false needed work h

pub no_rule : (k r : ℕ) → k ≡ r → k ≡ 0 → r ≡ 0
no_rule k r e z = sym e ∙ z

module _ (needed n : ℕ) (work₀ : List ℕ) (a : Option ℕ) (e : a ≡ needed_of needed (length work₀)) (q : a ≡ Some n) where
  pub lent : (n ≡ needed) × (needed ≤ length work₀)
  lent = needed-words needed (length work₀) n (sym e ∙ q)

  pub lent_fits : n ≤ length work₀
  lent_fits = omega (arith, lent.0, lent.1)

  pub lent-long : n ≡ length (take n work₀)
  lent-long = sym (length-take-le n work₀ lent_fits)

  pub lent-needed : length (take n work₀) ≡ needed
  lent-needed = sym lent-long ∙ lent.0

  module _ (y : List ℕ) (kept : length y ≡ length (take n work₀)) where
    pub clear-fits : n ≤ length (y ++ drop n work₀)
    clear-fits = omega (arith, kept, lent-long, length-append y (drop n work₀))

    pub given_back : (w : List ℕ) → w ≡ replicate n 0 ++ drop n (y ++ drop n work₀) → w ≡ replicate needed 0 ++ drop needed work₀
    given_back w c =
        c ∙ ap (λ (l : List ℕ). replicate n 0 ++ l) (drop_at y (drop n work₀) n (kept ∙ sym lent-long)) ∙ ap (λ (k : ℕ). replicate k 0 ++ drop k work₀) lent.0
