-- Of a draft whose tables are right: the pairs of its uses lie inside the strings, its lists inside the payload.
use Prim.Native.Nat.{ℕ, zero, suc, ◌+◌, ◌*◌, ◌≤◌, ◌<◌}
use mathlib.Core.Path.{◌≡◌, sym, ap, ◌∙◌}
use mathlib.Core.List.{List, [], ◌∷◌, ◌++◌}
use mathlib.Core.Bool.{Bool, true, false, cond, ◌||◌}
use native.Mathlib.Omega.{arith}
use native.Mathlib.Nat.{not-suc-le-zero}
use lib.ListN.{length, get_or}
use Rattle.laws.specs.Counted.{join_of}
use Rattle.laws.specs.Lists.{flat_map}
use Rattle.laws.proofs.First.{both}
use Rattle.image.specs.Sections.{Sections, node_count, definition_count, part_at, f, absent, good_text, good_in, good_optional}
use Rattle.image.proofs.Parts.{part_length, good}
use Rattle.records.specs.Fields.{Field, text, optional, command, operator, node, optionalNode, container, optionalContainer, plain, at_most, children, named, payload, wrong}
use Rattle.records.specs.Records.{field_rule, first_field, fields_at, payload_rule, number_of_named, list_items, list_origins, list_item_word, list_origin_word}
use Rattle.records.proofs.PassedRules.{text-passed, optional-passed, command_passed, operator_passed, payload-passed, payload-range, list-passed}
use Rattle.tree.specs.Tree.{named_at}
use Rattle.definitions.specs.Definitions.{number_of_items}
use Rattle.draft.specs.Draft.{tables_rule}
use Rattle.draft.specs.Numbering.{old_of}
use Rattle.draft.proofs.Rules.{Tables, tables, named-text_at, item-good}
use Rattle.draft_image.specs.Ready.{text_uses}
use Rattle.write_text_uses.specs.Uses.{use_if, list_item_pairs, list_origin_pairs, list_pairs, field_pairs, named_pairs, definition_pairs, all_node_pairs, all_named_pairs, all_definition_pairs, use_words, Olds, Readable}
use Rattle.write_text_uses.proofs.Pairs.{further, further-length, pairs_length, pairs_read, uses_pairs}

-- ---- pairs inside

data Fit (strings : List ℕ) : List ℕ → Type 0 where
  none : Fit strings []
  one : {at len : ℕ} {ws : List ℕ} → at + len ≤ length strings → Fit strings ws → Fit strings (at ∷ len ∷ ws)

module _ {strings : List ℕ} where
  fit_read : {ws : List ℕ} → Fit strings ws → (k : ℕ) → k + k < length ws → get_or ws (k + k) 0 + get_or ws (k + k + 1) 0 ≤ length strings
  fit_read none k h = absurd (not-suc-le-zero h)
  fit_read (one p q) zero h = p
  fit_read (one {at} {len} {ws} p q) (suc k) h = omega (arith, fit_read q k (omega arith), further at len k ws, further-length at len k ws)

  fit_append : {ws vs : List ℕ} → Fit strings ws → Fit strings vs → Fit strings (ws ++ vs)
  fit_append none q = q
  fit_append (one p r) q = one p (fit_append r q)

  fit_join : (n : ℕ) (g : ℕ → List ℕ) → ((j : ℕ) → j < n → Fit strings (g j)) → Fit strings (join_of n g)
  unfolding join_of
  fit_join zero g p = none
  fit_join (suc n) g p = fit_append (fit_join n g (λ j h. p j (omega arith))) (p n (omega arith))

-- ---- of a draft

module _ (s : Sections) where
  good_fit : (at len : ℕ) → good_text s at len ≡ true → Fit s.strings (at ∷ len ∷ [])
  good_fit at len p = one (good s.strings at len p).inside none

  if_fit : (at len : ℕ) → good_optional s at len ≡ true → Fit s.strings (use_if at len)
  unfolding use_if
  if_fit at len p = go (absent at len) p
    where
      go : (b : Bool) → (b || good_in s.strings at len) ≡ true → Fit s.strings (cond b [] (at ∷ len ∷ []))
      go true q = none
      go false q = good_fit at len q

  list_fit : (at len : ℕ) → payload_rule s at len ≡ 0 → Fit s.strings (list_pairs s at)
  unfolding list_pairs list_item_pairs list_origin_pairs
  list_fit at len p =
      let l = list-passed s at len p in
      fit_append
      (fit_join (list_items s at) _ (λ j h. fit_append (if_fit (list_item_word s at j 0) (list_item_word s at j 1) (l.item-origin j h)) (good_fit (list_item_word s at j 2) (list_item_word s at j 3) (l.item-name j h))))
      (fit_join (list_origins s at) _ (λ j h. good_fit (list_origin_word s at j 0) (list_origin_word s at j 1) (l.origin j h)))

  module _ (i : ℕ) where
    field_fit : (x : Field) → field_rule s i x ≡ 0 → Fit s.strings (field_pairs s i x)
    unfolding field_pairs
    field_fit (text k) p = good_fit (f s i k) (f s i (k + 1)) (text-passed s i k p)
    field_fit (optional k) p = if_fit (f s i k) (f s i (k + 1)) (optional-passed s i k p)
    field_fit (command k) p = good_fit (f s i k) (f s i (k + 1)) (command_passed s i k p).0
    field_fit (operator k) p = good_fit (f s i k) (f s i (k + 1)) (operator_passed s i k p).0
    field_fit payload p = list_fit (f s i 0) (f s i 1) (payload-passed s i p).1
    field_fit (node k) p = none
    field_fit (optionalNode k) p = none
    field_fit (container k) p = none
    field_fit (optionalContainer k) p = none
    field_fit (plain k) p = none
    field_fit (at_most k n) p = none
    field_fit children p = none
    field_fit named p = none
    field_fit wrong p = none

    fields_fit : (xs : List Field) → first_field s i xs ≡ 0 → Fit s.strings (flat_map (field_pairs s i) xs)
    unfolding flat_map first_field
    fields_fit [] p = none
    fields_fit (x ∷ xs) p = fit_append (field_fit x (both _ _ p).0) (fields_fit xs (both _ _ p).1)

  module _ (t : Tables s) where
    named_fit : (i : ℕ) → i < node_count s → Fit s.strings (named_pairs s i)
    unfolding named_pairs
    named_fit i h = fit_join (number_of_named s i) _ (λ j k. good_fit (named_at s i j 0) (named_at s i j 1) (named-text_at s t i h j k))

    definition_fit : (d : ℕ) → d < definition_count s → Fit s.strings (definition_pairs s d)
    unfolding definition_pairs
    definition_fit d h = fit_append (good_fit _ _ (t.definitions d h).0) (fit_join (number_of_items s d) _ (λ j k. good_fit _ _ (item-good s t d h j k)))

    module _ (order : List ℕ) (olds : Olds (node_count s) order) where
      uses_fit : Fit s.strings (use_words s order)
      unfolding use_words all_node_pairs all_named_pairs all_definition_pairs
      uses_fit =
          fit_append
          (fit_append
          (fit_join (node_count s) _ (λ j h. fields_fit (old_of order j) (fields_at s (old_of order j)) (t.fields (old_of order j) (olds.below j h))))
          (fit_join (node_count s) _ (λ j h. named_fit (old_of order j) (olds.below j h))))
          (fit_join (definition_count s) _ definition_fit)

      -- the draft can be read for its texts
      pub readable : Readable s order
      readable =
          record {
            olds = olds;
            lists = λ i h e. let l = (payload-range s i e (t.fields i h)).1 in omega (arith, l.inside, l.exact);
          }

-- ---- use k of a draft whose tables are right

-- its words, text and length
pub record Use (s : Sections) (order : List ℕ) (k : ℕ) : Type 0 where
  pub inside : get_or (use_words s order) (k + k) 0 + get_or (use_words s order) (k + k + 1) 0 ≤ length s.strings
  pub says : part_at s.strings (get_or (use_words s order) (k + k) 0) (get_or (use_words s order) (k + k + 1) 0) ≡ get_or (text_uses s order) k []
  pub long : length (get_or (text_uses s order) k []) ≡ get_or (use_words s order) (k + k + 1) 0

pub uses-length : (s : Sections) (order : List ℕ) → length (use_words s order) ≡ 2 * length (text_uses s order)
uses-length s order = pairs_length (uses_pairs s order)

pub use_at : (s : Sections) (order : List ℕ) → tables_rule s ≡ 0 → Olds (node_count s) order → (k : ℕ) → k < length (text_uses s order) → Use s order k
use_at s order p olds k h =
    let says = pairs_read (uses_pairs s order) k h in
    let inside = fit_read (uses_fit s (tables s p) order olds) k (omega (arith, uses-length s order)) in
    record {
      inside = inside;
      says = says;
      long = sym (ap length says) ∙ part_length s.strings (get_or (use_words s order) (k + k) 0) (get_or (use_words s order) (k + k + 1) 0) inside;
    }
