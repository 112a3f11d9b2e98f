-- The list definitions of a written image and their items.
use Prim.Native.Nat.{ℕ, ◌+◌, ◌≤◌, ◌<◌}
use mathlib.Core.Path.{◌≡◌, sym, ap, ◌∙◌}
use mathlib.Core.List.{List}
use mathlib.Core.Bool.{true}
use native.Mathlib.Omega.{arith}
use native.Mathlib.Nat.{le_trans}
use lib.ListN.{length}
use lib.Dec.{leb}
use borrow.Author.Tests.{eqb-true, eq-eqb, le-leb, leb-true}
use Rattle.laws.proofs.First.{pass, then, first_of_lem}
use Rattle.laws.proofs.Flags.{both_true}
use Rattle.laws.proofs.Members.{and-true, sum_ext}
use Rattle.image.specs.Sections.{Sections, definition_count, item_count, definition_word, item_word}
use Rattle.definitions.specs.Definitions.{definition_text, first_item, number_of_items, item_text, item_text_of, good_item, items_before, item_rule, item_rule_from, definition_rule, items_used_up, definitions_rule}
use Rattle.draft_image.specs.Strings.{offset_of}
use Rattle.draft_image.specs.Written.{definition_out, item_out}
use Rattle.written.proofs.Texts.{good-text}
use Rattle.draft_image.proofs.Blocks.{w, definition-count, definition-word, item_count_lem, item-word}
use Rattle.written.proofs.Fields.{Given}
use Rattle.written.proofs.Rules.{good_at, text_at_lem}
use Rattle.written.proofs.Tree.{rising-same}

module _ {s : Sections} {order : List ℕ} {kept : List (List ℕ)} (g : Given s order kept) where
  abbrev v : Sections
  v = w s order kept

  -- ---- words

  module _ (d : ℕ) (h : d < definition_count s) where
    pub at_word : definition_word v d 0 ≡ offset_of kept (definition_text s d)
    unfolding definition_out
    at_word = definition-word s order kept d 0 h (omega arith)

    pub len_word : definition_word v d 1 ≡ length (definition_text s d)
    unfolding definition_out
    len_word = definition-word s order kept d 1 h (omega arith)

    pub first-item : first_item v d ≡ first_item s d
    unfolding definition_out
    first-item = definition-word s order kept d 2 h (omega arith)

    pub items_of : number_of_items v d ≡ number_of_items s d
    unfolding definition_out
    items_of = definition-word s order kept d 3 h (omega arith)

    definition-text : definition_text v d ≡ definition_text s d
    definition-text = text_at_lem g (definition_text s d) (definition_word v d 0) (definition_word v d 1) (g.stored.definition d h) at_word len_word

    -- the items are inside, and start where those before end
    pub items-right : (first_item s d + number_of_items s d ≤ item_count s) × (first_item s d ≡ items_before s d)
    items-right =
        let p = both_true (leb (first_item s d + number_of_items s d) (item_count s)) _ (g.taken.tables.definitions d h).1 in
        (leb-true _ _ p.0, eqb-true _ _ p.1)

  items-before : (d : ℕ) → d ≤ definition_count s → items_before v d ≡ items_before s d
  items-before d h = sum_ext d (number_of_items v) (number_of_items s) (λ e q. items_of e (le_trans q h))

  -- ---- the items of definition d

  module _ (d : ℕ) (h : d < definition_count s) where
    module _ (j : ℕ) (q : j < number_of_items s d) where
      abbrev at : ℕ
      at = first_item s d + j

      pub item-inside : at < item_count s
      item-inside = omega (arith, (items-right d h).0)

      item_at : first_item v d + j ≡ at
      item_at = ap (λ (x : ℕ). x + j) (first-item d h)

      pub item_at_word : item_word v at 0 ≡ offset_of kept (item_text_of s d j)
      unfolding item_out
      item_at_word = item-word s order kept at 0 item-inside (omega arith)

      pub item_len_word : item_word v at 1 ≡ length (item_text_of s d j)
      unfolding item_out
      item_len_word = item-word s order kept at 1 item-inside (omega arith)

      item-text : item_text_of v d j ≡ item_text_of s d j
      item-text = ap (item_text v) item_at ∙ text_at_lem g (item_text_of s d j) (item_word v at 0) (item_word v at 1) (g.stored.item d h j q) item_at_word item_len_word

      item-good : good_item v (first_item v d + j) ≡ true
      item-good =
          ap (good_item v) item_at
          ∙ good_at g (item_text_of s d j) (item_word v at 0) (item_word v at 1) (g.stored.item d h j q) (good-text s _ _ (g.taken.tables.items at item-inside)) item_at_word item_len_word

    item-kept : (j : ℕ) → j < number_of_items s d → item_rule v d j ≡ 0
    unfolding item_rule_from
    item-kept j q =
        then _ _ (pass _ 17 (item-good j q))
        (pass _ 17 (rising-same j (item_text_of v d) (item_text_of s d) (λ k l. item-text k (omega arith)) (g.taken.shape.rising-items d h j q)))

    definition-kept : definition_rule v d ≡ 0
    unfolding definition_rule
    definition-kept =
        then _ _
        (pass _ 10 (good_at g (definition_text s d) (definition_word v d 0) (definition_word v d 1) (g.stored.definition d h)
        (good-text s _ _ (g.taken.tables.definitions d h).0) (at_word d h) (len_word d h)))
        (then _ _ (pass _ 17 (rising-same d (definition_text v) (definition_text s) (λ k l. definition-text k (omega arith)) (g.taken.shape.rising-definitions d h)))
        (then _ _
        (pass _ 11 (and-true _ _
        (le-leb (first_item v d + number_of_items v d) (item_count v) (omega (arith, first-item d h, items_of d h, item_count_lem s order kept, (items-right d h).0)))
        (eq-eqb _ _ (first-item d h ∙ (items-right d h).1 ∙ sym (items-before d (omega arith))))))
        (first_of_lem (number_of_items v d) (item_rule v d) (λ j q. item-kept j (omega (arith, items_of d h))))))

  items-used : items_used_up v ≡ true
  unfolding items_used_up
  items-used =
      eq-eqb _ _
      (ap (items_before v) (definition-count s order kept) ∙ items-before (definition_count s) (omega arith)
      ∙ eqb-true (items_before s (definition_count s)) (item_count s) (unfold items_used_up in g.taken.tables.items-used) ∙ sym (item_count_lem s order kept))

  pub definitions-pass : definitions_rule v ≡ 0
  unfolding definitions_rule
  definitions-pass =
      then _ _ (first_of_lem (definition_count v) (definition_rule v) (λ d h. definition-kept d (omega (arith, definition-count s order kept))))
      (pass _ 17 items-used)
