-- The stored texts: every text in use is stored, and is found again at its offset.
use Prim.Native.Nat.{ℕ, zero, suc, ◌+◌, ◌≤◌, ◌<◌, zero-le}
use mathlib.Core.Path.{◌≡◌, refl, ap, ◌∙◌, subst}
use mathlib.Core.List.{List, [], ◌∷◌, ◌++◌, map}
use mathlib.Core.Bool.{Bool, true, false, cond, ◌&&◌, ◌||◌, false≢true}
use native.Mathlib.Omega.{arith}
use native.Mathlib.Nat.{not-suc-le-zero}
use lib.ListN.{length, get_or, take, drop, length-append, length-take, length-drop}
use lib.Seq.{take-append_seam, drop-append-add}
use lib.Dec.{leb}
use borrow.Author.Tests.{ne_eqb, le-leb, leb-true}
use Rattle.laws.specs.Counted.{join_of}
use Rattle.laws.specs.Lists.{flat_map}
use Rattle.laws.proofs.Flags.{both_true}
use Rattle.laws.proofs.Members.{and-true, or_left, or_right}
use Rattle.words.specs.Words.{NONE}
use Rattle.texts.specs.Text.{same, holds}
use Rattle.texts.proofs.Text.{same-equal}
use Rattle.image.specs.Sections.{Sections, node_count, definition_count, part_at, text_at, present, good_in, good_text, good_bytes}
use Rattle.records.specs.Records.{number_of_named}
use Rattle.tree.specs.Tree.{named_text}
use Rattle.definitions.specs.Definitions.{definition_text, number_of_items, item_text_of}
use Rattle.draft.specs.Numbering.{old_of}
use Rattle.draft_image.proofs.HeldTexts.{in_left, in_right, in_head, in_one, in_join}
use Rattle.draft_image.specs.Strings.{by_path, path_of, node_texts, named_texts, definition_texts, uses, distinct, stored_texts, offset_of}

-- ---- texts that a list holds

in_map : (k : ℕ) (xs : List ℕ) (g : ℕ → List ℕ) → k < length xs → holds (map g xs) (g (get_or xs k 0)) ≡ true
unfolding holds
in_map k [] g h = absurd (not-suc-le-zero h)
in_map zero (x ∷ xs) g h = in_head (g x) (map g xs)
in_map (suc k) (x ∷ xs) g h = or_right (same (g (get_or xs k 0)) (g x)) _ (in_map k xs g (omega arith))

-- ---- texts stored once

stays : (kept ts : List (List ℕ)) (t : List ℕ) → holds kept t ≡ true → holds (distinct kept ts) t ≡ true
unfolding distinct
stays kept [] t h = h
stays kept (x ∷ ts) t h = stays (cond (holds kept x) kept (kept ++ (x ∷ []))) ts t (go (holds kept x))
  where
    go : (b : Bool) → holds (cond b kept (kept ++ (x ∷ []))) t ≡ true
    go true = h
    go false = in_left kept (x ∷ []) t h

pub comes : (kept ts : List (List ℕ)) (t : List ℕ) → holds ts t ≡ true → holds (distinct kept ts) t ≡ true
unfolding distinct holds
comes kept [] t h = absurd (false≢true h)
comes kept (x ∷ ts) t h = go (same t x) refl h (comes (cond (holds kept x) kept (kept ++ (x ∷ []))) ts t)
  where
    now : same t x ≡ true → (b : Bool) → holds kept x ≡ b → holds (cond b kept (kept ++ (x ∷ []))) t ≡ true
    now e true q = ap (holds kept) (same-equal t x e) ∙ q
    now e false q = in_right kept (x ∷ []) t (or_left (same t x) false e)

    go : (b : Bool) → same t x ≡ b → (b || holds ts t) ≡ true
        → (holds ts t ≡ true → holds (distinct (cond (holds kept x) kept (kept ++ (x ∷ []))) ts) t ≡ true)
        → holds (distinct (cond (holds kept x) kept (kept ++ (x ∷ []))) ts) t ≡ true
    go true e q k = stays (cond (holds kept x) kept (kept ++ (x ∷ []))) ts t (now e (holds kept x) refl)
    go false e q k = k q

-- ---- offsets

pub offset_le : (kept : List (List ℕ)) (t : List ℕ) → offset_of kept t ≤ length (flat_map (λ x. x) kept)
unfolding offset_of flat_map
offset_le [] t = zero-le
offset_le (x ∷ xs) t = go (same t x) (offset_le xs t)
  where
    go : (b : Bool) → offset_of xs t ≤ length (flat_map (λ y. y) xs) → cond b 0 (length x + offset_of xs t) ≤ length (x ++ flat_map (λ y. y) xs)
    go true h = zero-le
    go false h = omega (arith, length-append x (flat_map (λ y. y) xs))

-- a text that is stored stands at its offset
pub stored-text : (kept : List (List ℕ)) (t : List ℕ) → holds kept t ≡ true → part_at (flat_map (λ x. x) kept) (offset_of kept t) (length t) ≡ t
unfolding holds offset_of flat_map part_at
stored-text [] t p = absurd (false≢true p)
stored-text (x ∷ xs) t p = go (stored-text xs t) (same t x) refl p
  where
    go : (holds xs t ≡ true → take (length t) (drop (offset_of xs t) (flat_map (λ y. y) xs)) ≡ t) → (b : Bool) → same t x ≡ b → (b || holds xs t) ≡ true
        → take (length t) (drop (cond b 0 (length x + offset_of xs t)) (x ++ flat_map (λ y. y) xs)) ≡ t
    go r true e q = subst (λ (y : List ℕ). take (length t) (y ++ flat_map (λ z. z) xs) ≡ t) (same-equal t x e) (take-append_seam t (flat_map (λ z. z) xs))
    go r false e q = ap (take (length t)) (drop-append-add x (flat_map (λ y. y) xs) (offset_of xs t)) ∙ r q

pub offset_inside : (kept : List (List ℕ)) (t : List ℕ) → holds kept t ≡ true → offset_of kept t + length t ≤ length (flat_map (λ x. x) kept)
unfolding part_at
offset_inside kept t h =
    omega (
      arith,
      offset_le kept t,
      ap length (stored-text kept t h),
      length-take (length t) (drop (offset_of kept t) (flat_map (λ x. x) kept)),
      length-drop (offset_of kept t) (flat_map (λ x. x) kept),
    )

-- ---- good texts

pub good-text : (s : Sections) (at len : ℕ) → good_text s at len ≡ true → good_bytes (text_at s at len) ≡ true
unfolding good_in
good-text s at len h = (both_true (present at len && leb (at + len) (length s.strings)) _ h).1

pub text-short : (s : Sections) (at len : ℕ) → length (text_at s at len) ≤ len
unfolding part_at
text-short s at len = omega (arith, length-take len (drop at s.strings))

-- a good text is as long as it says
pub good_length : (s : Sections) (at len : ℕ) → good_text s at len ≡ true → length (text_at s at len) ≡ len
unfolding good_in part_at
good_length s at len h =
    let p : at + len ≤ length s.strings = leb-true _ _ (both_true (present at len) (leb (at + len) (length s.strings))
    (both_true (present at len && leb (at + len) (length s.strings)) _ h).0).1 in
    omega (arith, length-take len (drop at s.strings), length-drop at s.strings)

two_present : (a b : ℕ) → a < NONE → b < NONE → present a b ≡ true
two_present a b h q = rw (ne_eqb a NONE (λ e. omega arith), ne_eqb b NONE (λ e. omega arith)) refl

-- the texts of sections whose strings are the stored texts
module _ (w : Sections) (kept : List (List ℕ)) (e : w.strings ≡ flat_map (λ x. x) kept) (room : length w.strings < NONE) where
  pub text-back : (t : List ℕ) → holds kept t ≡ true → text_at w (offset_of kept t) (length t) ≡ t
  text-back t h = rw e (stored-text kept t h)

  pub text-good : (t : List ℕ) → holds kept t ≡ true → good_bytes t ≡ true → good_text w (offset_of kept t) (length t) ≡ true
  unfolding good_in
  text-good t h u =
      let fit = offset_inside kept t h in
      let size = ap length e in
      and-true _ _
      (and-true _ _
      (two_present (offset_of kept t) (length t) (omega arith) (omega arith))
      (le-leb (offset_of kept t + length t) (length w.strings) (omega arith)))
      (ap good_bytes (text-back t h) ∙ u)

-- ---- the texts in use

pub record Stored (s : Sections) (order : List ℕ) (kept : List (List ℕ)) : Type 0 where
  pub nodes : (j : ℕ) → j < node_count s → (t : List ℕ) → holds (node_texts s (old_of order j)) t ≡ true → holds kept t ≡ true
  pub named : (j : ℕ) → j < node_count s → (k : ℕ) → k < number_of_named s (old_of order j) → holds kept (named_text s (old_of order j) k) ≡ true
  pub definition : (d : ℕ) → d < definition_count s → holds kept (definition_text s d) ≡ true
  pub item : (d : ℕ) → d < definition_count s → (j : ℕ) → j < number_of_items s d → holds kept (item_text_of s d j) ≡ true
  pub index : (k : ℕ) → k < length (by_path s order) → holds kept (path_of s order (get_or (by_path s order) k 0)) ≡ true

module _ (s : Sections) (order : List ℕ) where
  abbrev of_nodes : List (List ℕ)
  of_nodes = join_of (node_count s) (λ j. node_texts s (old_of order j))

  abbrev of_named_lem : List (List ℕ)
  of_named_lem = join_of (node_count s) (λ j. named_texts s (old_of order j))

  abbrev of_definitions : List (List ℕ)
  of_definitions = join_of (definition_count s) (definition_texts s)

  abbrev of_index : List (List ℕ)
  of_index = map (path_of s order) (by_path s order)

  -- a text of one of the four lists is stored
  pub by_nodes : (t : List ℕ) → holds of_nodes t ≡ true → holds (stored_texts s order) t ≡ true
  unfolding stored_texts uses
  by_nodes t h = comes [] (uses s order) t (in_left (of_nodes ++ of_named_lem ++ of_definitions) of_index t (in_left (of_nodes ++ of_named_lem) of_definitions t (in_left of_nodes of_named_lem t h)))

  pub by_named : (t : List ℕ) → holds of_named_lem t ≡ true → holds (stored_texts s order) t ≡ true
  unfolding stored_texts uses
  by_named t h = comes [] (uses s order) t (in_left (of_nodes ++ of_named_lem ++ of_definitions) of_index t (in_left (of_nodes ++ of_named_lem) of_definitions t (in_right of_nodes of_named_lem t h)))

  pub by_definitions : (t : List ℕ) → holds of_definitions t ≡ true → holds (stored_texts s order) t ≡ true
  unfolding stored_texts uses
  by_definitions t h = comes [] (uses s order) t (in_left (of_nodes ++ of_named_lem ++ of_definitions) of_index t (in_right (of_nodes ++ of_named_lem) of_definitions t h))

  pub by_index : (t : List ℕ) → holds of_index t ≡ true → holds (stored_texts s order) t ≡ true
  unfolding stored_texts uses
  by_index t h = comes [] (uses s order) t (in_right (of_nodes ++ of_named_lem ++ of_definitions) of_index t h)

  pub stored : Stored s order (stored_texts s order)
  unfolding named_texts definition_texts holds
  stored =
      record {
        nodes = λ j h t q. by_nodes t (in_join (node_count s) j (λ m. node_texts s (old_of order m)) t h q);
        named = λ j h k q.
            let t = named_text s (old_of order j) k in
            by_named t (in_join (node_count s) j (λ m. named_texts s (old_of order m)) t h
            (in_join (number_of_named s (old_of order j)) k (λ m. named_text s (old_of order j) m ∷ []) t q (in_one t)));
        definition = λ d h. by_definitions (definition_text s d) (in_join (definition_count s) d (definition_texts s) (definition_text s d) h (in_head (definition_text s d) (join_of (number_of_items s d) (λ m. item_text_of s d m ∷ []))));
        item = λ d h j q.
            let t = item_text_of s d j in
            by_definitions t (in_join (definition_count s) d (definition_texts s) t h
            (or_right (same t (definition_text s d)) _ (in_join (number_of_items s d) j (λ m. item_text_of s d m ∷ []) t q (in_one t))));
        index = λ k h. by_index (path_of s order (get_or (by_path s order) k 0)) (in_map k (by_path s order) (path_of s order) h);
      }
