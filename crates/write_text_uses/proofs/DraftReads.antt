-- What the code reads of a draft is what the pairs of its texts are made of.
use Prim.Native.Nat.{ℕ, ◌+◌, ◌*◌, ◌≤◌}
use mathlib.Core.Path.{◌≡◌, refl, sym, ap, ◌∙◌}
use mathlib.Core.List.{List, [], ◌∷◌, ◌++◌}
use mathlib.Core.Bool.{true, false, cond}
use native.Mathlib.Omega.{arith}
use lib.ListN.{length, get_or}
use lib.Dec.{eqb}
use borrow.Author.Tests.{eq-eqb, ne_eqb}
use Rattle.laws.specs.Counted.{join_of}
use Rattle.words.specs.Words.{NONE, word_at}
use Rattle.image.specs.declared.NodeRecord.{NodeRecord}
use Rattle.image.specs.declared.Definition.{Definition}
use Rattle.image.specs.Entries.{record_of, definition_of, definition_in}
use Rattle.image.specs.Sections.{Sections, tag_of, f, absent, is_container, named_word, definition_word, item_word}
use Rattle.image.proofs.Entries.{IsNode, read-node, definition-entry}
use Rattle.records.specs.Records.{list_word, list_items, list_origins, number_of_named}
use Rattle.definitions.specs.Definitions.{first_item, number_of_items}
use Rattle.draft_image.proofs.Joins.{join_same}
use Rattle.write_text_uses.proofs.Puts.{Split}
use Rattle.write_text_uses.specs.Uses.{use_if, list_item_pairs, list_origin_pairs, list_pairs, named_pairs, definition_pairs, origin_pairs, entry_pairs, payload_only, named_only, definitions_only, ListInside}

-- ---- whether a text is absent

pub there : (a b : ℕ) → (a ≡ NONE → ⊥) → false ≡ absent a b
there a b d = rw (ne_eqb a NONE d) refl

pub second : (a b : ℕ) → a ≡ NONE → eqb b NONE ≡ absent a b
second a b e = rw (eq-eqb a NONE e) refl

-- ---- lists

module _ (bytes : List ℕ) (start j a b x y : ℕ) where
  abbrev item : ℕ
  item = start + (8 + j * 20)

  pub item_is : a ≡ word_at bytes item → b ≡ word_at bytes (item + 4) → x ≡ word_at bytes (item + 8) → y ≡ word_at bytes (item + 12)
      → Split (list_item_pairs (payload_only bytes) start j) (use_if a b) (x ∷ y ∷ [])
  unfolding list_item_pairs list_word
  item_is p q r t =
      let p0 : word_at bytes (start + (8 + j * 20 + 0 * 4)) ≡ a = ap (word_at bytes) (omega arith) ∙ sym p in
      let p1 : word_at bytes (start + (8 + j * 20 + 1 * 4)) ≡ b = ap (word_at bytes) (omega arith) ∙ sym q in
      let p2 : word_at bytes (start + (8 + j * 20 + 2 * 4)) ≡ x = ap (word_at bytes) (omega arith) ∙ sym r in
      let p3 : word_at bytes (start + (8 + j * 20 + 3 * 4)) ≡ y = ap (word_at bytes) (omega arith) ∙ sym t in
      record { is = λ i. use_if (p0 i) (p1 i) ++ (p2 i ∷ p3 i ∷ []) }

module _ (bytes : List ℕ) (first j : ℕ) where
  pub origin_is : (x y : ℕ) → x ≡ word_at bytes (first + j * 8) → y ≡ word_at bytes (first + j * 8 + 4) → x ∷ y ∷ [] ≡ origin_pairs bytes first j
  unfolding origin_pairs
  origin_is x y p q = λ i. p i ∷ q i ∷ []

module _ (bytes : List ℕ) (start a b : ℕ) (p : a ≡ word_at bytes start) (q : b ≡ word_at bytes (start + 4)) where
  items_are : list_items (payload_only bytes) start ≡ a
  unfolding list_word
  items_are = ap (word_at bytes) (omega arith) ∙ sym p

  origins_are : list_origins (payload_only bytes) start ≡ b
  unfolding list_word
  origins_are = sym q

  origin-same : (j : ℕ) → list_origin_pairs (payload_only bytes) start j ≡ origin_pairs bytes (start + (8 + a * 20)) j
  unfolding list_origin_pairs origin_pairs list_word
  origin-same j =
      let e : word_at bytes (start + (8 + list_items (payload_only bytes) start * 20 + j * 8 + 0 * 4)) ≡ word_at bytes (start + (8 + a * 20) + j * 8) =
      ap (word_at bytes) (omega (arith, items_are)) in
      let h : word_at bytes (start + (8 + list_items (payload_only bytes) start * 20 + j * 8 + 1 * 4)) ≡ word_at bytes (start + (8 + a * 20) + j * 8 + 4) =
      ap (word_at bytes) (omega (arith, items_are)) in
      λ i. e i ∷ h i ∷ []

  -- the list's texts are those of its items and its origins
  pub list_is : Split (list_pairs (payload_only bytes) start) (join_of a (list_item_pairs (payload_only bytes) start)) (join_of b (origin_pairs bytes (start + (8 + a * 20))))
  unfolding list_pairs
  list_is =
      let items : (ℕ → List ℕ) = list_item_pairs (payload_only bytes) start in
      let origins : (ℕ → List ℕ) = list_origin_pairs (payload_only bytes) start in
      record {
        is =
            (λ i. join_of (items_are i) items ++ join_of (origins_are i) origins)
            ∙ ap (λ (l : List ℕ). join_of a items ++ l) (join_same b origins (origin_pairs bytes (start + (8 + a * 20))) (λ j h. origin-same j));
      }

  pub list-items-inside : ListInside (payload_only bytes) start → start + (8 + a * 20) ≤ length bytes
  list-items-inside h = omega (arith, items_are)

  pub list-origins-inside : ListInside (payload_only bytes) start → start + (8 + a * 20) + b * 8 ≤ length bytes
  list-origins-inside h = omega (arith, items_are, origins_are)

-- ---- entries of three words

module _ (entries : List ℕ) (first j : ℕ) where
  pub entry_is : (x y : ℕ) → x ≡ get_or entries ((first + j) * 3) 0 → y ≡ get_or entries ((first + j) * 3 + 1) 0 → x ∷ y ∷ [] ≡ entry_pairs entries first j
  unfolding entry_pairs
  entry_is x y p q = λ i. p i ∷ q i ∷ []

module _ (entries : List ℕ) (first j : ℕ) where
  -- the entry as the code reads it, and as a section has it
  same-entry : get_or entries ((first + j) * 3) 0 ∷ get_or entries ((first + j) * 3 + 1) 0 ∷ [] ≡ get_or entries ((first + j) * 3 + 0) 0 ∷ get_or entries ((first + j) * 3 + 1) 0 ∷ []
  same-entry =
      let e : (first + j) * 3 ≡ (first + j) * 3 + 0 = omega arith in
      ap (λ (m : ℕ). get_or entries m 0 ∷ get_or entries ((first + j) * 3 + 1) 0 ∷ []) e

-- a container's named entries; another node has none
module _ (version : ℕ) (nodes entries : List ℕ) (i : ℕ) (r : NodeRecord) (e : r ≡ record_of version nodes i) where
  abbrev s : Sections
  s = named_only version nodes entries

  node : IsNode s i r
  node = read-node s version nodes i r refl refl e

  pub container_is : r.tag ≡ 1 → named_pairs s i ≡ join_of r.f6 (entry_pairs entries r.f5)
  unfolding named_pairs number_of_named named_word entry_pairs
  container_is h =
      let c : is_container s i ≡ true = eq-eqb (tag_of s i) 1 (sym node.tag ∙ h) in
      let n : cond (is_container s i) (f s i 6) 0 ≡ r.f6 = rw c (sym node.f6) in
      rw (n, ← node.f5) (sym (join_same r.f6 _ _ (λ j h. same-entry entries r.f5 j)))

  pub no_container_lem : (r.tag ≡ 1 → ⊥) → named_pairs s i ≡ []
  unfolding named_pairs number_of_named join_of
  no_container_lem d = rw (ne_eqb (tag_of s i) 1 (λ h. d (node.tag ∙ h))) refl

-- a definition and its items
module _ (definitions items : List ℕ) (d : ℕ) (r : Definition) (e : r ≡ definition_of definitions d) where
  pub definition_is : Split (definition_pairs (definitions_only definitions items) d) (r.offset ∷ r.len ∷ []) (join_of r.count (entry_pairs items r.first))
  unfolding definition_pairs item_word entry_pairs
  definition_is =
      let q : r ≡ definition_in (definitions_only definitions items) d = e ∙ definition-entry (definitions_only definitions items) definitions d refl in
      record {
        is =
            rw q
            (ap (λ (l : List ℕ). (definition_word (definitions_only definitions items) d 0 ∷ definition_word (definitions_only definitions items) d 1 ∷ []) ++ l)
            (sym (join_same (number_of_items (definitions_only definitions items) d) _ _ (λ j h. same-entry items (first_item (definitions_only definitions items) d) j))));
      }
