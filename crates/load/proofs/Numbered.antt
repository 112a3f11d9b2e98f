-- What a load answers, as a number; and a load without work words, which answers a number from 1 to 7.
use Rattle.std.specs.Prelude.{Err, Ok, Result, ℕ}
use Prim.Native.Nat.{ℕ, zero, suc}
use mathlib.Core.Path.{◌≡◌, refl, sym, ap, ◌∙◌}
use mathlib.Core.List.{List}
use mathlib.Core.Bool.{Bool, true, false, true≢false}
use native.Mathlib.Omega.{arith}
use lib.Dec.{leb}
use borrow.Author.Tests.{lt-leb}
use Rattle.laws.specs.Refusal.{unless, ◌▸◌}
use Rattle.laws.proofs.First.{first, second}
use Rattle.image.specs.declared.ImageView.{ImageView}
use Rattle.image.specs.Header.{header_rule, view_of, sections_of}
use Rattle.load.specs.Load.{checksum_rule, sections_rule, load_rule, load_words, loaded_by, loaded_of, early}
use Rattle.load.proofs.Answers.{header-early}

pub viewed_by : (r : ℕ) (u v : ImageView) → Ok u ≡ loaded_by r v → (0 ≡ r) × (u ≡ v)
viewed_by zero u v e = (refl, cc)
viewed_by (suc r) u v e = let z : ◌≡◌ {A = ℕ} 0 1 = cc in absurd (omega arith)

pub refused_by : (r k : ℕ) (v : ImageView) → Err k ≡ loaded_by r v → (k ≡ r) × (k ≡ 0 → ⊥)
refused_by zero k v e = let z : ◌≡◌ {A = ℕ} 0 1 = cc in absurd (omega arith)
refused_by (suc r) k v e = let q : k ≡ suc r = cc in (q, λ z. omega arith)

module _ (bs : List ℕ) (work : ℕ) (a : Result ImageView ℕ) (e : a ≡ loaded_of bs work) where
  pub viewed : (u : ImageView) → a ≡ Ok u → (0 ≡ load_rule bs work) × (u ≡ view_of bs)
  unfolding loaded_of
  viewed u q = viewed_by (load_rule bs work) u (view_of bs) (sym q ∙ e)

  pub refused : (k : ℕ) → a ≡ Err k → (k ≡ load_rule bs work) × (k ≡ 0 → ⊥)
  unfolding loaded_of
  refused k q = refused_by (load_rule bs work) k (view_of bs) (sym q ∙ e)

-- ---- no work words

checked : (t : Bool) (b : ℕ) → early (unless t 6 ▸ unless false 7 ▸ b) ≡ true
unfolding unless ◌▸◌
checked true b = refl
checked false b = refl

pub early-without : (bs : List ℕ) → early (load_rule bs 0) ≡ true
unfolding load_rule checksum_rule
early-without bs = by (header_rule bs) refl
  where
    rest : ℕ
    rest = checksum_rule bs ▸ unless (leb (load_words (sections_of bs)) 0) 7 ▸ sections_rule (sections_of bs)

    none : leb (load_words (sections_of bs)) 0 ≡ false
    none = lt-leb (load_words (sections_of bs)) 0 (omega arith)

    by : (r : ℕ) → header_rule bs ≡ r → early (header_rule bs ▸ rest) ≡ true
    by zero e = ap early (second _ rest e) ∙ rw none (checked _ (sections_rule (sections_of bs)))
    by (suc r) e = ap early (first _ rest r e) ∙ header-early bs (suc r) (sym e) (λ z. omega arith)

pub early-some : (r : ℕ) → early r ≡ true → r ≡ 0 → ⊥
early-some zero e z = true≢false (sym e)
early-some (suc r) e z = omega arith
