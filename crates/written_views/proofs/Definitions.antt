-- The list definitions of a written image and their items are those of its draft.
use Rattle.std.specs.Prelude.{Some}
use Prim.Native.Nat.{ℕ, zero, suc, ◌+◌, ◌-◌, ◌<◌}
use mathlib.Core.Path.{◌≡◌, refl, ap, ◌∙◌, subst}
use mathlib.Core.List.{List}
use mathlib.Core.Bool.{Bool, true, false}
use native.Mathlib.Omega.{arith}
use native.Mathlib.Nat.{not-suc-le-zero}
use lib.ListN.{length}
use lib.Dec.{ltb}
use borrow.Author.Tests.{eqb-true, lt-ltb, ltb-true, ltb-false}
use Rattle.laws.specs.Counted.{sum_of}
use Rattle.image.specs.Sections.{Sections, definition_count, item_count, definition_word, item_word}
use Rattle.definitions.specs.Definitions.{first_item, number_of_items, items_before, items_used_up}
use Rattle.draft_image.specs.Written.{item_out}
use Rattle.views.specs.declared.DefinitionView.{DefinitionView}
use Rattle.views.specs.declared.ItemView.{ItemView}
use Rattle.views.specs.View.{signed, span, shown}
use Rattle.views.specs.Lists.{definition_query, item_entry, item_query}
use Rattle.draft_image.proofs.Blocks.{w, definition-count, item_count_lem, item-word}
use Rattle.written.proofs.Fields.{Given}
use Rattle.written.proofs.Definitions.{at_word, len_word, first-item, items_of, items-right, item-inside, item_at_word, item_len_word}
use Rattle.written_views.specs.Views.{SameText, SameItem, SameDefinition}
use Rattle.written_views.proofs.Texts.{text_same}

-- ---- as the queries find them

module _ (s : Sections) where
  abbrev definition_at : ℕ → DefinitionView
  definition_at d = record { name = span (definition_word s d 0) (definition_word s d 1); items = number_of_items s d }

  definition-found : (d : ℕ) → d < definition_count s → shown (length s.strings) (definition_word s d 0) (definition_word s d 1) ≡ true
      → definition_query s d ≡ Some (definition_at d)
  unfolding definition_query
  definition-found d h e = rw (lt-ltb d (definition_count s) h, e)

  abbrev item_in : ℕ → ItemView
  item_in k = record { name = span (item_word s k 0) (item_word s k 1); value = signed (item_word s k 2) }

  item-found : (k : ℕ) → k < item_count s → shown (length s.strings) (item_word s k 0) (item_word s k 1) ≡ true → item_entry s k ≡ Some (item_in k)
  unfolding item_entry
  item-found k h e = rw (lt-ltb k (item_count s) h, e)

  item-query : (d k : ℕ) → d < definition_count s → k < number_of_items s d → item_query s d k ≡ item_entry s (first_item s d + k)
  unfolding item_query
  item-query d k h q = rw (lt-ltb d (definition_count s) h, lt-ltb k (number_of_items s d) q)

-- a number below a sum is in one of its terms
record Located (n : ℕ) (b : ℕ → ℕ) (k : ℕ) : Type 0 where
  term : ℕ
  below : term < n
  rest : ℕ
  within : rest < b term
  at : sum_of term b + rest ≡ k

located : (n : ℕ) (b : ℕ → ℕ) (k : ℕ) → k < sum_of n b → Located n b k
unfolding sum_of
located zero b k h = absurd (not-suc-le-zero h)
located (suc n) b k h = by (ltb k (sum_of n b)) refl (located n b k)
  where
    by : (c : Bool) → ltb k (sum_of n b) ≡ c → (k < sum_of n b → Located n b k) → Located (suc n) b k
    by true e r =
        let l = r (ltb-true k (sum_of n b) e) in
        record { term = l.term; below = omega (arith, l.below); rest = l.rest; within = l.within; at = l.at }
    by false e r =
        let q = ltb-false k (sum_of n b) e in
        record { term = n; below = omega arith; rest = k - sum_of n b; within = omega arith; at = omega arith }

module _ {s : Sections} {order : List ℕ} {kept : List (List ℕ)} (g : Given s order kept) where
  abbrev t : Sections
  t = w s order kept

  -- ---- items

  -- the j-th item of definition d, by its number among all
  item-same : (d : ℕ) → (h : d < definition_count s) → (j : ℕ) → j < number_of_items s d → SameItem s t (item_entry s (first_item s d + j)) (item_entry t (first_item s d + j))
  unfolding item_out
  item-same d h j q =
      let k = first_item s d + j in
      let inside = item-inside g d h j q in
      let name : SameText s t (span (item_word s k 0) (item_word s k 1)) (span (item_word t k 0) (item_word t k 1))
      = text_same g (item_word s k 0) (item_word s k 1) (item_word t k 0) (item_word t k 1) (g.taken.tables.items k inside) (g.stored.item d h j q)
      (item_at_word g d h j q) (item_len_word g d h j q) in
      record {
        draft = item_in s k;
        image = item_in t k;
        drafted = item-found s k inside name.drafted;
        written = item-found t k (omega (arith, item_count_lem s order kept)) name.written;
        name = name;
        value = ap signed (item-word s order kept k 2 inside (omega arith));
      }

  -- every item is one of a definition's
  pub each-item-same : (k : ℕ) → k < item_count s → SameItem s t (item_entry s k) (item_entry t k)
  unfolding items_used_up
  each-item-same k h =
      let used = eqb-true (items_before s (definition_count s)) (item_count s) g.taken.tables.items-used in
      let l = located (definition_count s) (number_of_items s) k (omega arith) in
      subst (λ (m : ℕ). SameItem s t (item_entry s m) (item_entry t m)) (omega (arith, l.at, (items-right g l.term l.below).1))
      (item-same l.term l.below l.rest l.within)

  -- ---- definitions

  module _ (d : ℕ) (h : d < definition_count s) where
    h_there : d < definition_count t
    h_there = omega (arith, definition-count s order kept)

    query-same : (j : ℕ) → j < number_of_items s d → SameItem s t (item_query s d j) (item_query t d j)
    query-same j q =
        let same = item-same d h j q in
        record {
          draft = same.draft;
          image = same.image;
          drafted = item-query s d j h q ∙ same.drafted;
          written =
              item-query t d j h_there (omega (arith, items_of g d h)) ∙ ap (λ (m : ℕ). item_entry t (m + j)) (first-item g d h)
              ∙ same.written;
          name = same.name;
          value = same.value;
        }

    pub definition-same : SameDefinition s t d
    definition-same =
        let name : SameText s t (span (definition_word s d 0) (definition_word s d 1)) (span (definition_word t d 0) (definition_word t d 1))
        = text_same g (definition_word s d 0) (definition_word s d 1) (definition_word t d 0) (definition_word t d 1) (g.taken.tables.definitions d h).0
        (g.stored.definition d h) (at_word g d h) (len_word g d h) in
        record {
          draft = definition_at s d;
          image = definition_at t d;
          drafted = definition-found s d h name.drafted;
          written = definition-found t d h_there name.written;
          name = name;
          items = items_of g d h;
          first = first-item g d h;
          item = query-same;
        }
