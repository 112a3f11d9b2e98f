-- Texts that rise: one step of the test, and that each comes before all that follow.
use Prim.Native.Nat.{ℕ, zero, suc, ◌+◌, ◌-◌, ◌<◌}
use mathlib.Core.Path.{◌≡◌, refl, sym}
use mathlib.Core.List.{List}
use mathlib.Core.Bool.{true}
use native.Mathlib.Omega.{arith}
use native.Mathlib.Nat.{not-suc-le-zero}
use native.Mathlib.Decide.{ℕ_discrete, dec_lt}
use Rattle.texts.specs.Text.{before, rising}
use Rattle.texts.proofs.Text.{before-trans, before-unlike}
use Rattle.image.specs.declared.TextEntry.{TextEntry}
use Rattle.image.specs.declared.Definition.{Definition}
use Rattle.image.specs.Sections.{part_at}
use Rattle.image.specs.Entries.{text_entry_of, definition_of, entry_text_from, definition_text_in}

-- an entry after the first one
pub rising-next : (t : ℕ → List ℕ) (j : ℕ) → (j ≡ 0 → ⊥) → rising t j ≡ before (t (j - 1)) (t j)
rising-next t zero h = absurd (h refl)
rising-next t (suc j) h = let e : suc j - 1 ≡ j = omega arith in rw e

pub rising-first : (t : ℕ → List ℕ) (j : ℕ) → j ≡ 0 → rising t j ≡ true
rising-first t zero h = refl
rising-first t (suc j) h = absurd (omega arith)

-- the same texts
pub rising-like : (t u : ℕ → List ℕ) → ((j : ℕ) → t j ≡ u j) → (j : ℕ) → rising t j ≡ rising u j
rising-like t u e zero = refl
rising-like t u e (suc j) = rw (e j, e (suc j))

module _ (t : ℕ → List ℕ) (n : ℕ) (up : (j : ℕ) → j < n → rising t j ≡ true) where
  -- each comes before all that follow
  pub rising-before : (j k : ℕ) → j < k → k < n → before (t j) (t k) ≡ true
  rising-before j zero h g = absurd (not-suc-le-zero h)
  rising-before j (suc k) h g = by (ℕ_discrete j k) (λ l. rising-before j k l (omega arith))
    where
      by : Dec (j ≡ k) → (j < k → before (t j) (t k) ≡ true) → before (t j) (t (suc k)) ≡ true
      by (yes e) r = rw e (up (suc k) g)
      by (no d) r = before-trans (t j) (t k) (t (suc k)) (r (omega arith)) (up (suc k) g)

  -- so no two are equal
  pub rising-once : (j k : ℕ) → j < n → k < n → t j ≡ t k → j ≡ k
  rising-once j k h g e = by (ℕ_discrete j k) (dec_lt j k)
    where
      by : Dec (j ≡ k) → Dec (j < k) → j ≡ k
      by (yes q) l = q
      by (no d) (yes l) = absurd (before-unlike (t j) (t k) (rising-before j k l g) e)
      by (no d) (no l) = absurd (before-unlike (t k) (t j) (rising-before k j (omega arith) h) (sym e))

-- ---- entries

-- the texts of an entry and of the one before it
pub entry-rises : (ws strings : List ℕ) (first place : ℕ) (last entry : TextEntry) → (place ≡ 0 → ⊥)
    → last ≡ text_entry_of ws (first + (place - 1)) → entry ≡ text_entry_of ws (first + place)
    → before (part_at strings last.offset last.len) (part_at strings entry.offset entry.len) ≡ rising (entry_text_from ws strings first) place
unfolding entry_text_from
entry-rises ws strings first place last entry h p q = rw (rising-next (entry_text_from ws strings first) place h, p, q)

pub definition-rises : (ws strings : List ℕ) (d : ℕ) (last entry : Definition) → (d ≡ 0 → ⊥)
    → last ≡ definition_of ws (d - 1) → entry ≡ definition_of ws d
    → before (part_at strings last.offset last.len) (part_at strings entry.offset entry.len) ≡ rising (definition_text_in ws strings) d
unfolding definition_text_in
definition-rises ws strings d last entry h p q = rw (rising-next (definition_text_in ws strings) d h, p, q)
