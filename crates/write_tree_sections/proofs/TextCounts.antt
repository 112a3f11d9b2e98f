-- The count of a node's texts, by the number of its tag, and the loop over a list's items.
use Prim.Native.Nat.{ℕ, ◌+◌, ◌*◌, ◌≤◌, ◌<◌}
use mathlib.Core.Path.{◌≡◌, refl, sym, ap, ◌∙◌}
use mathlib.Core.Logic.{◌⊎◌, inl, inr}
use mathlib.Core.Bool.{Bool, true, ◌||◌}
use mathlib.Core.List.{List}
use native.Mathlib.Omega.{arith}
use native.Mathlib.Decide.{dec_lt}
use native.Mathlib.Numerals.{add-one}
use lib.Dec.{eqb}
use borrow.Author.Tests.{ne_eqb, eqb-true}
use Rattle.laws.specs.Counted.{sum_of}
use Rattle.laws.specs.Refusal.{unless, ◌▸◌, first_of}
use Rattle.laws.proofs.First.{first_all, passed}
use Rattle.words.specs.Words.{word_in}
use Rattle.image.specs.declared.NodeRecord.{NodeRecord}
use Rattle.records.specs.Fields.{kinds, kind_of}
use Rattle.records.proofs.ByKind.{past-kinds}
use Rattle.write_tree_sections.specs.Encoded.{text_count, list_texts_in, texts_by}
use Rattle.write_tree_sections.proofs.Records.{count_small}

-- ---- a list's items

abbrev item_count : List ℕ → ℕ → ℕ → ℕ
item_count payload at m = text_count (word_in payload (at + 8 + m * 20))

pub record Counting (payload : List ℕ) (at items : ℕ) (present j : ℕ) : Type 0 where
  pub within : j ≤ items
  pub small : present ≤ j
  pub is : present ≡ sum_of j (item_count payload at)

pub count-start : (payload : List ℕ) (at items : ℕ) → Counting payload at items 0 0
unfolding sum_of
count-start payload at items = record { within = omega arith; small = omega arith; is = refl }

pub count_next : (payload : List ℕ) (at items present j : ℕ) → Counting payload at items present j → j < items → (word count : ℕ)
    → word ≡ word_in payload (at + 8 + j * 20) → count ≡ text_count word → Counting payload at items (present + count) (j + 1)
unfolding sum_of
count_next payload at items present j c h word count e q =
    let here : count ≡ item_count payload at j = q ∙ ap text_count e in
    record {
      within = omega arith;
      small = omega (arith, q, count_small word);
      is = rw add-one (omega (arith, c.is));
    }

pub count_end : (payload : List ℕ) (at items origins present j : ℕ) → Counting payload at items present j → items ≤ j → items ≡ word_in payload at
    → origins ≡ word_in payload (at + 4) → present + items + origins ≡ list_texts_in payload at
unfolding list_texts_in
count_end payload at items origins present j c h e q =
    let last : j ≡ items = omega arith in
    let all : present ≡ sum_of (word_in payload at) (item_count payload at) = c.is ∙ ap (λ (n : ℕ). sum_of n (item_count payload at)) (last ∙ e) in
    omega arith

-- ---- by the tag

module _ (payload : List ℕ) (r : NodeRecord) where
  by_tag : (t : ℕ) → r.tag ≡ t → texts_by payload r (kind_of t) ≡ texts_by payload r (kind_of r.tag)
  by_tag t e = ap (λ (x : ℕ). texts_by payload r (kind_of x)) (sym e)

  pub at_container : r.tag ≡ 1 → text_count r.f0 ≡ texts_by payload r (kind_of r.tag)
  unfolding kinds texts_by
  at_container e = by_tag 1 e

  pub at_choice : r.tag ≡ 2 → text_count r.f0 ≡ texts_by payload r (kind_of r.tag)
  unfolding kinds texts_by
  at_choice e = by_tag 2 e

  pub at_divert : r.tag ≡ 4 → (a b : ℕ) → a ≡ text_count r.f0 → b ≡ text_count r.f3 → a + b ≡ texts_by payload r (kind_of r.tag)
  unfolding kinds texts_by
  at_divert e a b p q = (λ t. p t + q t) ∙ by_tag 4 e

  pub at_list_lem : r.tag ≡ 12 → list_texts_in payload r.f0 ≡ texts_by payload r (kind_of r.tag)
  unfolding kinds texts_by
  at_list_lem e = by_tag 12 e

  pub at_reference : r.tag ≡ 17 → (a : ℕ) → a ≡ text_count r.f2 → 1 + a ≡ texts_by payload r (kind_of r.tag)
  unfolding kinds texts_by
  at_reference e a p = ap (λ (x : ℕ). 1 + x) p ∙ by_tag 17 e

  pub at_one : (r.tag ≡ 3) ⊎ ((r.tag ≡ 6) ⊎ ((r.tag ≡ 11) ⊎ ((r.tag ≡ 13) ⊎ (r.tag ≡ 16)))) → 1 ≡ texts_by payload r (kind_of r.tag)
  unfolding kinds texts_by
  at_one (inl e) = by_tag 3 e
  at_one (inr (inl e)) = by_tag 6 e
  at_one (inr (inr (inl e))) = by_tag 11 e
  at_one (inr (inr (inr (inl e)))) = by_tag 13 e
  at_one (inr (inr (inr (inr e)))) = by_tag 16 e

  pub at_one_more : (r.tag ≡ 7) ⊎ (r.tag ≡ 14) → 1 ≡ texts_by payload r (kind_of r.tag)
  unfolding kinds texts_by
  at_one_more (inl e) = by_tag 7 e
  at_one_more (inr e) = by_tag 14 e

  -- of each tag: it is one of those, or there is no text
  unfoldable some_or_none : ℕ → Bool
  some_or_none t =
      eqb t 1 || (eqb t 2 || (eqb t 4 || (eqb t 12 || (eqb t 17 || (eqb t 3 || (eqb t 6 || (eqb t 11 || (eqb t 13 || (eqb t 16 || (eqb t 7 || (eqb t 14
      || eqb (texts_by payload r (kind_of t)) 0)))))))))))

  some_or_none_lem : first_of 19 (λ t. unless (some_or_none t) 1) ≡ 0
  unfolding first_of ◌▸◌ unless kinds some_or_none texts_by
  some_or_none_lem = refl

  pub at_none : (((((((Unit {0} × (r.tag ≡ 1 → ⊥)) × (r.tag ≡ 2 → ⊥)) × (r.tag ≡ 4 → ⊥)) × (r.tag ≡ 12 → ⊥)) × (r.tag ≡ 17 → ⊥))
      × ((r.tag ≡ 3) ⊎ ((r.tag ≡ 6) ⊎ ((r.tag ≡ 11) ⊎ ((r.tag ≡ 13) ⊎ (r.tag ≡ 16)))) → ⊥)) × ((r.tag ≡ 7) ⊎ (r.tag ≡ 14) → ⊥))
      → 0 ≡ texts_by payload r (kind_of r.tag)
  at_none o = side (dec_lt r.tag 19)
    where
      below : some_or_none r.tag ≡ true → 0 ≡ texts_by payload r (kind_of r.tag)
      below p = unfold some_or_none in
          let q : eqb (texts_by payload r (kind_of r.tag)) 0 ≡ true =
          rw (
            ne_eqb r.tag 1 o.0.0.0.0.0.0.1,
            ne_eqb r.tag 2 o.0.0.0.0.0.1,
            ne_eqb r.tag 4 o.0.0.0.0.1,
            ne_eqb r.tag 12 o.0.0.0.1,
            ne_eqb r.tag 17 o.0.0.1,
            ne_eqb r.tag 3 (λ e. o.0.1 (inl e)),
            ne_eqb r.tag 6 (λ e. o.0.1 (inr (inl e))),
            ne_eqb r.tag 11 (λ e. o.0.1 (inr (inr (inl e)))),
            ne_eqb r.tag 13 (λ e. o.0.1 (inr (inr (inr (inl e))))),
            ne_eqb r.tag 16 (λ e. o.0.1 (inr (inr (inr (inr e))))),
            ne_eqb r.tag 7 (λ e. o.1 (inl e)),
            ne_eqb r.tag 14 (λ e. o.1 (inr e)),
          ) at p in
          sym (eqb-true (texts_by payload r (kind_of r.tag)) 0 q)

      side : Dec (r.tag < 19) → 0 ≡ texts_by payload r (kind_of r.tag)
      side (yes l) = below (passed (some_or_none r.tag) 0 (first_all 19 (λ x. unless (some_or_none x) 1) some_or_none_lem r.tag l))
      side (no l) = unfold texts_by in ap (texts_by payload r) (sym (past-kinds r.tag (omega arith)))
