-- The whole load, put together: the answer, and the work words on return.
use Rattle.std.specs.Prelude.{Err, Ok, Result, ℕ}
use Prim.Native.Nat.{ℕ, zero, suc, ◌+◌, ◌≤◌, ◌<◌}
use mathlib.Core.Path.{◌≡◌, refl, sym, ap, ◌∙◌}
use mathlib.Core.List.{List, ◌++◌}
use mathlib.Core.Bool.{Bool, true, false, cond}
use native.Mathlib.Omega.{arith}
use lib.ListN.{drop, replicate}
use lib.Dec.{eqb, leb}
use borrow.Author.Tests.{eq-eqb, ne_eqb, le-leb, lt-leb}
use Rattle.laws.specs.Refusal.{unless, ◌▸◌}
use Rattle.laws.proofs.First.{second, pass, fail}
use Rattle.laws.proofs.Chains.{refused}
use Rattle.words.specs.Words.{word_at}
use Rattle.checksum.specs.Crc.{checksum_of}
use Rattle.image.specs.declared.ImageView.{ImageView}
use Rattle.image.specs.Header.{header_rule, opened_by, opened_of, view_of, sections_by, sections_of, checksum_at}
use Rattle.image.proofs.OpenedHeader.{opens, view-counts}
use Rattle.load.specs.Load.{checksum_rule, sections_rule, load_rule, load_words, loaded_by, loaded_of, work_after, early}
use Rattle.load.proofs.NumbersFrom8.{late-not-early, late-sections}

-- ---- the answer

loaded_by_lem : (r : ℕ) (v : ImageView) → (r ≡ 0 → ⊥) → Err r ≡ loaded_by r v
loaded_by_lem zero v d = absurd (d refl)
loaded_by_lem (suc r) v d = refl

pub refused-load : (bs : List ℕ) (work r : ℕ) → r ≡ load_rule bs work → (r ≡ 0 → ⊥) → Err r ≡ loaded_of bs work
unfolding loaded_of
refused-load bs work r e d = loaded_by_lem r (view_of bs) d ∙ ap (λ (x : ℕ). loaded_by x (view_of bs)) e

pub accepted-load : (bs : List ℕ) (work : ℕ) (v : ImageView) → v ≡ view_of bs → 0 ≡ load_rule bs work → Ok v ≡ loaded_of bs work
unfolding loaded_of
accepted-load bs work v q e = ap Ok q ∙ ap (λ (x : ℕ). loaded_by x (view_of bs)) e

-- ---- the work words

-- a refusal with a number up to 7 leaves them
pub left_alone : (needed r : ℕ) (w : List ℕ) → early r ≡ true → w ≡ work_after needed r w
unfolding work_after
left_alone needed r w e = sym (ap (λ (b : Bool). cond b w (replicate needed 0 ++ drop needed w)) e)

pub left-alone_at : (needed r k : ℕ) (w : List ℕ) → k ≡ r → early k ≡ true → w ≡ work_after needed r w
left-alone_at needed r k w e q = left_alone needed r w (ap early (sym e) ∙ q)

-- fewer words than are needed, as the code counts them
pub few_of : (n m work : ℕ) → n ≡ m → work < n → work < m
few_of n m work e h = rw e at h

pub most_of : (n m work : ℕ) → n ≡ m → n ≤ work → m ≤ work
most_of n m work e h = rw e at h

-- else they are cleared
pub cleared : (needed r : ℕ) (w : List ℕ) → early r ≡ false → replicate needed 0 ++ drop needed w ≡ work_after needed r w
unfolding work_after
cleared needed r w e = sym (ap (λ (b : Bool). cond b w (replicate needed 0 ++ drop needed w)) e)

-- ---- the header refuses

-- its numbers are at most 5
small-unless : (t : Bool) (k : ℕ) → k ≤ 5 → unless t k ≤ 5
unfolding unless
small-unless true k h = omega arith
small-unless false k h = h

small-then : (a b : ℕ) → a ≤ 5 → b ≤ 5 → (a ▸ b) ≤ 5
unfolding ◌▸◌
small-then zero b p q = q
small-then (suc a) b p q = p

header-small : (bs : List ℕ) → header_rule bs ≤ 5
unfolding header_rule
header-small bs =
    small-then _ _ (small-unless _ 1 (omega arith))
    (small-then _ _ (small-unless _ 2 (omega arith))
    (small-then _ _ (small-unless _ 3 (omega arith)) (small-then _ _ (small-unless _ 4 (omega arith)) (small-unless _ 5 (omega arith)))))

pub header-early : (bs : List ℕ) (r : ℕ) → r ≡ header_rule bs → (r ≡ 0 → ⊥) → early r ≡ true
header-early bs r e d =
    let h : r ≤ 5 = rw e (header-small bs) in
    rw (le-leb 1 r (omega arith), le-leb r 7 (omega arith))

-- what opening an image answers
opened_by_lem : (n r : ℕ) (v : ImageView) → opened_by n v ≡ Err r → (r ≡ n) × (r ≡ 0 → ⊥)
unfolding opened_by
opened_by_lem zero r v e = let z : ◌≡◌ {A = ℕ} 0 1 = cc in absurd (omega arith)
opened_by_lem (suc n) r v e = let q : r ≡ suc n = cc in (q, λ p. omega arith)

viewed_by : (n : ℕ) (u v : ImageView) → opened_by n v ≡ Ok u → (n ≡ 0) × (u ≡ v)
unfolding opened_by
viewed_by zero u v e = (refl, cc)
viewed_by (suc n) u v e = let z : ◌≡◌ {A = ℕ} 0 1 = cc in absurd (omega arith)

pub header-broken : (bs : List ℕ) (a : Result ImageView ℕ) (r : ℕ) → a ≡ opened_of bs → a ≡ Err r → (r ≡ header_rule bs) × (r ≡ 0 → ⊥)
unfolding opened_of
header-broken bs a r e q = opened_by_lem (header_rule bs) r (view_of bs) (sym e ∙ q)

pub header-kept : (bs : List ℕ) (a : Result ImageView ℕ) (v : ImageView) → a ≡ opened_of bs → a ≡ Ok v → (header_rule bs ≡ 0) × (v ≡ view_of bs)
unfolding opened_of
header-kept bs a v e q = viewed_by (header_rule bs) v (view_of bs) (sym e ∙ q)

pub header_refused : (bs : List ℕ) (work r : ℕ) → r ≡ header_rule bs → (r ≡ 0 → ⊥) → r ≡ load_rule bs work
unfolding load_rule
header_refused bs work r e d =
    refused (header_rule bs) (checksum_rule bs ▸ unless (leb (load_words (sections_of bs)) work) 7 ▸ sections_rule (sections_of bs)) r e d

-- ---- after the header

module _ (bs : List ℕ) (v : ImageView) (h : header_rule bs ≡ 0) (view : v ≡ view_of bs) where
  needed_of : (view_of bs).nodes.count + (view_of bs).children.count + (view_of bs).named.count + 1 ≡ load_words (sections_of bs)
  needed_of = let c = view-counts bs (opens bs h) in omega (arith, c.nodes, c.children, c.named)

  -- the words that the code counts
  pub needed_is : v.nodes.count + v.children.count + v.named.count + 1 ≡ load_words (sections_of bs)
  needed_is = ap (λ (x : ImageView). x.nodes.count + x.children.count + x.named.count + 1) view ∙ needed_of

  pub own_sections : sections_by bs v ≡ sections_of bs
  own_sections = ap (sections_by bs) view

  pub enough_of : (work : ℕ) → v.nodes.count + v.children.count + v.named.count + 1 ≤ work → load_words (sections_by bs v) ≤ work
  enough_of work k =
      let e : load_words (sections_by bs v) ≡ load_words (sections_of bs) = ap load_words own_sections in
      rw e (rw needed_is at k)

  module _ (work x y : ℕ) (word : x ≡ word_at bs checksum_at) (sum : y ≡ checksum_of bs) where
    abbrev rest : ℕ
    rest = unless (leb (load_words (sections_of bs)) work) 7 ▸ sections_rule (sections_of bs)

    past-header : load_rule bs work ≡ (checksum_rule bs ▸ rest)
    unfolding load_rule
    past-header = second (header_rule bs) (checksum_rule bs ▸ rest) h

    checked : eqb (word_at bs checksum_at) (checksum_of bs) ≡ eqb x y
    checked = rw (word, sum)

    pub sum_wrong : (x ≡ y → ⊥) → 6 ≡ load_rule bs work
    unfolding checksum_rule
    sum_wrong d =
        refused (checksum_rule bs) rest 6 (sym (fail (eqb (word_at bs checksum_at) (checksum_of bs)) 6 (checked ∙ ne_eqb x y d))) (λ q. omega arith)
        ∙ sym past-header

    module _ (right : x ≡ y) where
      past_sum : load_rule bs work ≡ rest
      unfolding checksum_rule
      past_sum = past-header ∙ second (checksum_rule bs) rest (pass (eqb (word_at bs checksum_at) (checksum_of bs)) 6 (checked ∙ eq-eqb x y right))

      pub too_few : work < load_words (sections_of bs) → 7 ≡ load_rule bs work
      too_few k =
          refused (unless (leb (load_words (sections_of bs)) work) 7) (sections_rule (sections_of bs)) 7
          (sym (fail (leb (load_words (sections_of bs)) work) 7 (lt-leb (load_words (sections_of bs)) work k))) (λ q. omega arith)
          ∙ sym past_sum

      pub sections_decide : (r : ℕ) → load_words (sections_of bs) ≤ work → r ≡ sections_rule (sections_by bs v) → r ≡ load_rule bs work
      sections_decide r k e =
          e ∙ ap sections_rule own_sections
          ∙ sym
          (second (unless (leb (load_words (sections_of bs)) work) 7) (sections_rule (sections_of bs))
          (pass (leb (load_words (sections_of bs)) work) 7 (le-leb (load_words (sections_of bs)) work k)))
          ∙ sym past_sum

      -- the words are cleared after the sections were tested
      pub words-after : (n : ℕ) (w₀ w₁ : List ℕ) → n ≡ load_words (sections_of bs) → load_words (sections_of bs) ≤ work
          → drop (load_words (sections_by bs v)) w₁ ≡ drop (load_words (sections_by bs v)) w₀
          → replicate n 0 ++ drop n w₁ ≡ work_after (load_words (sections_of bs)) (load_rule bs work) w₀
      words-after n w₀ w₁ m k e =
          let same : drop (load_words (sections_of bs)) w₁ ≡ drop (load_words (sections_of bs)) w₀ = rw own_sections at e in
          let decided = sections_decide (sections_rule (sections_by bs v)) k refl in
          ap (λ (x : ℕ). replicate x 0 ++ drop x w₁) m
          ∙ ap (λ (l : List ℕ). replicate (load_words (sections_of bs)) 0 ++ l) same
          ∙ cleared (load_words (sections_of bs)) (load_rule bs work) w₀
          (ap early (sym decided) ∙ late-not-early (sections_rule (sections_by bs v)) (late-sections (sections_by bs v)))
