-- What is read of definitions and items is what is written of them, for a draft whose tables are right.
use Prim.Native.Nat.{ℕ, zero, suc, ◌+◌, ◌<◌}
use mathlib.Core.Path.{◌≡◌, refl, sym, ap, ◌∙◌, subst}
use mathlib.Core.List.{List, [], ◌∷◌, ◌++◌, append_assoc, append-nil}
use native.Mathlib.Omega.{arith}
use native.Mathlib.Nat.{mul-one}
use lib.ListN.{length, get_or}
use Rattle.laws.specs.Counted.{sum_of, join_of}
use Rattle.laws.proofs.Members.{sum_ext}
use Rattle.image.specs.Sections.{Sections, definition_count, item_count, definition_word, item_word}
use Rattle.definitions.specs.Definitions.{definition_text, first_item, number_of_items, item_text_of, items_before}
use Rattle.draft.specs.Draft.{tables_rule}
use Rattle.draft.proofs.Rules.{Tables, tables, items-start, items_all, item-good}
use Rattle.draft_image.specs.Strings.{definition_texts, offset_of}
use Rattle.draft_image.specs.Ready.{OffsetsAt, definition_uses}
use Rattle.draft_image.specs.Written.{definition_out, item_out}
use Rattle.draft_image.proofs.Joins.{sum_const, join_same, join_length}
use Rattle.draft_image.proofs.Offsets.{offset_first, offsets-right, offsets-part}
use Rattle.write_numbering.proofs.DraftWords.{text-length}
use Rattle.write_list_sections.specs.Entered.{texts_before, items_before_in, definition_entry, item_words, items_words}

-- ---- joined parts

-- parts one after the other are the parts of a longer run
join_more : (a b : ℕ) (g : ℕ → List ℕ) → join_of a g ++ join_of b (λ i. g (a + i)) ≡ join_of (a + b) g
unfolding join_of
join_more a zero g = let e : a + 0 ≡ a = omega arith in append-nil (join_of a g) ∙ ap (λ (n : ℕ). join_of n g) (sym e)
join_more a (suc b) g =
    let e : a + suc b ≡ suc (a + b) = omega arith in
    sym (append_assoc (join_of a g) (join_of b (λ i. g (a + i))) (g (a + b)))
    ∙ ap (λ (l : List ℕ). l ++ g (a + b)) (join_more a b g)
    ∙ ap (λ (n : ℕ). join_of n g) (sym e)

regroup : (n : ℕ) (c : ℕ → ℕ) (g : ℕ → List ℕ) → join_of n (λ d. join_of (c d) (λ i. g (sum_of d c + i))) ≡ join_of (sum_of n c) g
unfolding join_of sum_of
regroup zero c g = refl
regroup (suc n) c g = ap (λ (l : List ℕ). l ++ join_of (c n) (λ i. g (sum_of n c + i))) (regroup n c g) ∙ join_more (sum_of n c) (c n) g

-- ---- texts

-- a definition's texts: its own and one an item
definition-size : (s : Sections) (d : ℕ) → length (definition_texts s d) ≡ 1 + number_of_items s d
unfolding definition_texts
definition-size s d =
    omega (arith, join_length (number_of_items s d) (λ j. item_text_of s d j ∷ []), sum_const (number_of_items s d) 1, mul-one (number_of_items s d))

module _ (s : Sections) where
  -- the texts before definition d
  texts-before : (d : ℕ) → sum_of d (λ m. length (definition_texts s m)) ≡ texts_before s.definitions d
  unfolding texts_before definition_word
  texts-before d = sum_ext d (λ m. length (definition_texts s m)) (λ m. 1 + number_of_items s m) (λ m h. definition-size s m)

  pub uses_are : length (definition_uses s) ≡ texts_before s.definitions (definition_count s)
  uses_are = join_length (definition_count s) (definition_texts s) ∙ texts-before (definition_count s)

  items-before : (d : ℕ) → items_before_in s.definitions d ≡ items_before s d
  unfolding items_before_in definition_word
  items-before d = refl

module _ (s : Sections) (order : List ℕ) (kept : List (List ℕ)) (w : List ℕ) (at : ℕ) (p : tables_rule s ≡ 0) (o : OffsetsAt kept (definition_uses s) w at) where
  t : Tables s
  t = tables s p

  module _ (d : ℕ) (h : d < definition_count s) where
    abbrev here : ℕ
    here = at + texts_before s.definitions d

    own : OffsetsAt kept (definition_texts s d) w here
    own = subst (λ (m : ℕ). OffsetsAt kept (definition_texts s d) w (at + m)) (texts-before s d) (offsets-part kept w at (definition_count s) (definition_texts s) o d h)

    definition_offset : get_or w here 0 ≡ offset_of kept (definition_text s d)
    unfolding definition_texts
    definition_offset = offset_first kept w here (definition_text s d) (join_of (number_of_items s d) (λ j. item_text_of s d j ∷ [])) own

    item_offset : (i : ℕ) → i < number_of_items s d → get_or w (here + 1 + i) 0 ≡ offset_of kept (item_text_of s d i)
    unfolding definition_texts
    item_offset i k =
        let e : here + 1 + sum_of i (λ m. 1) ≡ here + 1 + i = omega (arith, sum_const i 1, mul-one i) in
        let tail : OffsetsAt kept (join_of (number_of_items s d) (λ j. item_text_of s d j ∷ [])) w (here + 1) =
        offsets-right kept w here (definition_text s d ∷ []) (join_of (number_of_items s d) (λ j. item_text_of s d j ∷ [])) own in
        ap (λ (m : ℕ). get_or w m 0) (sym e)
        ∙ offset_first kept w (here + 1 + sum_of i (λ m. 1)) (item_text_of s d i) []
        (offsets-part kept w (here + 1) (number_of_items s d) (λ j. item_text_of s d j ∷ []) tail i k)

    definition-written : definition_entry s.definitions w at d ≡ definition_out s order kept d
    unfolding definition_entry definition_out definition_word
    definition-written =
        let size = text-length s (definition_word s d 0) (definition_word s d 1) (t.definitions d h).0 in
        λ j. definition_offset j ∷ size j ∷ definition_word s d 2 ∷ definition_word s d 3 ∷ []

    item-written : (i : ℕ) → i < number_of_items s d → item_words s.items w (here + 1) (first_item s d) i ≡ item_out s order kept (first_item s d + i)
    unfolding item_words item_out item_word
    item-written i k =
        let offset = item_offset i k in
        let size = text-length s (item_word s (first_item s d + i) 0) (item_word s (first_item s d + i) 1) (item-good s t d h i k) in
        λ j. offset j ∷ size j ∷ item_word s (first_item s d + i) 2 ∷ []

    items-written : items_words s.definitions s.items w at d ≡ join_of (number_of_items s d) (λ i. item_out s order kept (items_before s d + i))
    unfolding items_words definition_word
    items-written =
        join_same (number_of_items s d) (item_words s.items w (here + 1) (first_item s d)) (λ i. item_out s order kept (items_before s d + i))
        (λ i k. item-written i k ∙ ap (λ (m : ℕ). item_out s order kept (m + i)) (items-start s t d h))

  pub definitions_are : join_of (definition_count s) (definition_entry s.definitions w at) ≡ join_of (definition_count s) (definition_out s order kept)
  definitions_are = join_same (definition_count s) (definition_entry s.definitions w at) (definition_out s order kept) definition-written

  pub items_are : join_of (definition_count s) (items_words s.definitions s.items w at) ≡ join_of (item_count s) (item_out s order kept)
  items_are =
      join_same (definition_count s) (items_words s.definitions s.items w at) (λ d. join_of (number_of_items s d) (λ i. item_out s order kept (items_before s d + i))) items-written
      ∙ regroup (definition_count s) (number_of_items s) (item_out s order kept)
      ∙ ap (λ (n : ℕ). join_of n (item_out s order kept)) (items_all s t)
