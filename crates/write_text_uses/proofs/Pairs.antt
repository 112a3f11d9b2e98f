-- The words of the uses say the texts in use, pair by pair.
use Prim.Native.Nat.{ℕ, zero, suc, ◌+◌, ◌*◌, ◌<◌}
use mathlib.Core.Path.{◌≡◌, refl, ap, ◌∙◌}
use mathlib.Core.List.{List, [], ◌∷◌, ◌++◌}
use mathlib.Core.Bool.{Bool, true, false, cond}
use native.Mathlib.Omega.{arith}
use native.Mathlib.Nat.{not-suc-le-zero}
use lib.ListN.{length, get_or}
use Rattle.laws.specs.Counted.{join_of}
use Rattle.laws.specs.Lists.{flat_map}
use Rattle.image.specs.Sections.{Sections, node_count, definition_count, part_at, f, absent}
use Rattle.records.specs.Fields.{Field, text, optional, command, operator, node, optionalNode, container, optionalContainer, plain, at_most, children, named, payload, wrong}
use Rattle.records.specs.Records.{fields_at, number_of_named, list_items, list_origins, list_item_word}
use Rattle.definitions.specs.Definitions.{number_of_items}
use Rattle.draft.specs.Numbering.{old_of}
use Rattle.draft_image.specs.Strings.{text_if, list_texts, field_texts, node_texts, named_texts, definition_texts}
use Rattle.draft_image.specs.Ready.{text_uses}
use Rattle.write_text_uses.specs.Uses.{use_if, list_item_pairs, list_origin_pairs, list_pairs, field_pairs, node_pairs, named_pairs, definition_pairs, all_node_pairs, all_named_pairs, all_definition_pairs, use_words}

-- ---- words that say texts

pub data Pairs (strings : List ℕ) : List ℕ → List (List ℕ) → Type 0 where
  none : Pairs strings [] []
  one : {at len : ℕ} {ws : List ℕ} {ts : List (List ℕ)} → Pairs strings ws ts → Pairs strings (at ∷ len ∷ ws) (part_at strings at len ∷ ts)

-- a pair further on
pub further : (a b k : ℕ) (ws : List ℕ) → get_or (a ∷ b ∷ ws) (suc k + suc k) 0 ≡ get_or ws (k + k) 0
further a b k ws = let e : suc k + suc k ≡ suc (suc (k + k)) = omega arith in ap (λ (m : ℕ). get_or (a ∷ b ∷ ws) m 0) e

pub further-length : (a b k : ℕ) (ws : List ℕ) → get_or (a ∷ b ∷ ws) (suc k + suc k + 1) 0 ≡ get_or ws (k + k + 1) 0
further-length a b k ws = let e : suc k + suc k + 1 ≡ suc (suc (k + k + 1)) = omega arith in ap (λ (m : ℕ). get_or (a ∷ b ∷ ws) m 0) e

module _ {strings : List ℕ} where
  pub pairs_length : {ws : List ℕ} {ts : List (List ℕ)} → Pairs strings ws ts → length ws ≡ 2 * length ts
  pairs_length none = refl
  pairs_length (one p) = omega (arith, pairs_length p)

  pub pairs_read : {ws : List ℕ} {ts : List (List ℕ)} → Pairs strings ws ts → (k : ℕ) → k < length ts
      → part_at strings (get_or ws (k + k) 0) (get_or ws (k + k + 1) 0) ≡ get_or ts k []
  pairs_read none k h = absurd (not-suc-le-zero h)
  pairs_read (one p) zero h = refl
  pairs_read (one {at} {len} {ws} p) (suc k) h =
      (λ j. part_at strings (further at len k ws j) (further-length at len k ws j)) ∙ pairs_read p k (omega arith)

  pairs_append : {ws vs : List ℕ} {ts us : List (List ℕ)} → Pairs strings ws ts → Pairs strings vs us → Pairs strings (ws ++ vs) (ts ++ us)
  pairs_append none q = q
  pairs_append (one p) q = one (pairs_append p q)

  pairs_join : (n : ℕ) (g : ℕ → List ℕ) (h : ℕ → List (List ℕ)) → ((j : ℕ) → Pairs strings (g j) (h j)) → Pairs strings (join_of n g) (join_of n h)
  unfolding join_of
  pairs_join zero g h p = none
  pairs_join (suc n) g h p = pairs_append (pairs_join n g h p) (p n)

-- ---- of a draft

module _ (s : Sections) where
  if_pairs : (at len : ℕ) → Pairs s.strings (use_if at len) (text_if s at len)
  unfolding use_if
  if_pairs at len = go (absent at len)
    where
      go : (b : Bool) → Pairs s.strings (cond b [] (at ∷ len ∷ [])) (cond b [] (part_at s.strings at len ∷ []))
      go true = none
      go false = one none

  list_pairs_lem : (at : ℕ) → Pairs s.strings (list_pairs s at) (list_texts s at)
  unfolding list_pairs list_item_pairs list_origin_pairs list_texts
  list_pairs_lem at =
      pairs_append (pairs_join (list_items s at) _ _ (λ j. pairs_append (if_pairs (list_item_word s at j 0) (list_item_word s at j 1)) (one none)))
      (pairs_join (list_origins s at) _ _ (λ j. one none))

  module _ (i : ℕ) where
    field_pairs_lem : (x : Field) → Pairs s.strings (field_pairs s i x) (field_texts s i x)
    unfolding field_pairs field_texts
    field_pairs_lem (text k) = one none
    field_pairs_lem (optional k) = if_pairs (f s i k) (f s i (k + 1))
    field_pairs_lem (command k) = one none
    field_pairs_lem (operator k) = one none
    field_pairs_lem payload = list_pairs_lem (f s i 0)
    field_pairs_lem (node k) = none
    field_pairs_lem (optionalNode k) = none
    field_pairs_lem (container k) = none
    field_pairs_lem (optionalContainer k) = none
    field_pairs_lem (plain k) = none
    field_pairs_lem (at_most k n) = none
    field_pairs_lem children = none
    field_pairs_lem named = none
    field_pairs_lem wrong = none

    fields_pairs : (xs : List Field) → Pairs s.strings (flat_map (field_pairs s i) xs) (flat_map (field_texts s i) xs)
    unfolding flat_map
    fields_pairs [] = none
    fields_pairs (x ∷ xs) = pairs_append (field_pairs_lem x) (fields_pairs xs)

    pub node_pairs_lem : Pairs s.strings (node_pairs s i) (node_texts s i)
    node_pairs_lem = fields_pairs (fields_at s i)

    pub named_pairs_lem : Pairs s.strings (named_pairs s i) (named_texts s i)
    unfolding named_pairs named_texts
    named_pairs_lem = pairs_join (number_of_named s i) _ _ (λ j. one none)

  pub definition_pairs_lem : (d : ℕ) → Pairs s.strings (definition_pairs s d) (definition_texts s d)
  unfolding definition_pairs definition_texts
  definition_pairs_lem d = one (pairs_join (number_of_items s d) _ _ (λ j. one none))

  pub uses_pairs : (order : List ℕ) → Pairs s.strings (use_words s order) (text_uses s order)
  unfolding use_words all_node_pairs all_named_pairs all_definition_pairs
  uses_pairs order =
      pairs_append
      (pairs_append
      (pairs_join (node_count s) _ _ (λ j. node_pairs_lem (old_of order j)))
      (pairs_join (node_count s) _ _ (λ j. named_pairs_lem (old_of order j))))
      (pairs_join (definition_count s) _ _ definition_pairs_lem)
