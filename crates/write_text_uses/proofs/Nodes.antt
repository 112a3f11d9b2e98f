-- The pairs of a node's texts by its tag, over the record that the code reads.
use Prim.Native.Nat.{ℕ, ◌/◌, ◌<◌}
use mathlib.Core.Path.{◌≡◌, refl, sym, ap, ◌∙◌}
use mathlib.Core.Logic.{◌⊎◌, inl, inr}
use mathlib.Core.List.{List, [], ◌∷◌, ◌++◌, append-nil}
use mathlib.Core.Bool.{Bool, true, false, ◌||◌, false≢true}
use native.Mathlib.Omega.{arith}
use native.Mathlib.Decide.{dec_lt}
use lib.ListN.{length}
use lib.Dec.{eqb}
use borrow.Author.Tests.{ne_eqb}
use Rattle.draft.specs.Source.{nodes_only}
use Rattle.laws.specs.Refusal.{unless, ◌▸◌, first_of}
use Rattle.laws.specs.Lists.{flat_map}
use Rattle.laws.proofs.First.{first_all, passed}
use Rattle.image.specs.declared.NodeRecord.{NodeRecord}
use Rattle.image.specs.Entries.{record_of}
use Rattle.image.specs.Sections.{Sections, node_words, tag_of, f}
use Rattle.image.proofs.Entries.{IsNode, read-node}
use Rattle.records.specs.Fields.{Kind, kinds, kind_of, fields}
use Rattle.records.specs.Records.{list_word}
use Rattle.records.proofs.ByKind.{past-kinds}
use Rattle.draft.specs.Numbering.{old_of}
use Rattle.write_text_uses.specs.Uses.{use_if, list_item_pairs, list_origin_pairs, list_pairs, field_pairs, node_pairs, payload_only, ListInside, Olds, Readable}

module _ (s : Sections) (i : ℕ) where
  -- the pairs of a node of tag t
  abbrev own : ℕ → List ℕ
  own t = flat_map (field_pairs s i) (fields (kind_of t))

  -- ---- kinds that have no text

  nothing : List ℕ → Bool
  nothing [] = true
  nothing (x ∷ xs) = false

  nothing_nil : (xs : List ℕ) → nothing xs ≡ true → xs ≡ []
  unfolding nothing
  nothing_nil [] e = refl
  nothing_nil (x ∷ xs) e = absurd (false≢true e)

  -- the tag is one of those that have texts, or has none
  told_or_none : ℕ → Bool
  told_or_none t =
      eqb t 1 || eqb t 2 || eqb t 4 || eqb t 12 || eqb t 17
      || (eqb t 3 || eqb t 6 || eqb t 11 || eqb t 13 || eqb t 16)
      || (eqb t 7 || eqb t 14) || nothing (own t)

  told_or_none_lem : first_of 19 (λ t. unless (told_or_none t) 1) ≡ 0
  unfolding first_of ◌▸◌ unless told_or_none nothing flat_map field_pairs fields kinds
  told_or_none_lem = refl

  -- none of the decision's numbers
  abbrev pub Rest : ℕ → Type 0
  Rest t =
      (((((((Unit {0} × (t ≡ 1 → ⊥)) × (t ≡ 2 → ⊥)) × ((t ≡ 3) ⊎ ((t ≡ 6) ⊎ ((t ≡ 11) ⊎ ((t ≡ 13) ⊎ (t ≡ 16)))) → ⊥))
      × ((t ≡ 7) ⊎ (t ≡ 14) → ⊥)) × (t ≡ 4 → ⊥)) × (t ≡ 12 → ⊥)) × (t ≡ 17 → ⊥))

  own_none : (t : ℕ) → Rest t → own t ≡ []
  own_none t r = side (dec_lt t 19)
    where
      below : told_or_none t ≡ true → own t ≡ []
      below p = unfold told_or_none in
          let text : (eqb t 3 || eqb t 6 || eqb t 11 || eqb t 13 || eqb t 16) ≡ false =
          rw (
            ne_eqb t 3 (λ e. r.0.0.0.0.1 (inl e)),
            ne_eqb t 6 (λ e. r.0.0.0.0.1 (inr (inl e))),
            ne_eqb t 11 (λ e. r.0.0.0.0.1 (inr (inr (inl e)))),
            ne_eqb t 13 (λ e. r.0.0.0.0.1 (inr (inr (inr (inl e))))),
            ne_eqb t 16 (λ e. r.0.0.0.0.1 (inr (inr (inr (inr e))))),
          ) refl in
          let more : (eqb t 7 || eqb t 14) ≡ false = rw (ne_eqb t 7 (λ e. r.0.0.0.1 (inl e)), ne_eqb t 14 (λ e. r.0.0.0.1 (inr e))) refl in
          let q : nothing (own t) ≡ true =
          rw (ne_eqb t 1 r.0.0.0.0.0.0.1, ne_eqb t 2 r.0.0.0.0.0.1, ne_eqb t 4 r.0.0.1, ne_eqb t 12 r.0.1, ne_eqb t 17 r.1, text, more) at p in
          nothing_nil (own t) q

      side : Dec (t < 19) → own t ≡ []
      side (yes l) = below (passed (told_or_none t) 0 (first_all 19 (λ x. unless (told_or_none x) 1) told_or_none_lem t l))
      side (no l) = unfold flat_map field_pairs fields in ap (λ (k : Kind). flat_map (field_pairs s i) (fields k)) (past-kinds t (omega arith))

-- ---- over the record

module _ (version : ℕ) (nodes bytes : List ℕ) (i : ℕ) (r : NodeRecord) (e : r ≡ record_of version nodes i) where
  abbrev s : Sections
  s = nodes_only version nodes bytes

  node : IsNode s i r
  node = read-node s version nodes i r refl refl e

  by_tag : (t : ℕ) → r.tag ≡ t → node_pairs s i ≡ own s i t
  by_tag t h = ap (own s i) (sym node.tag ∙ h)

  -- an optional text
  if_own : use_if (f s i 0) (f s i 1) ≡ use_if r.f0 r.f1
  if_own = λ j. use_if (sym node.f0 j) (sym node.f1 j)

  pub at_container : r.tag ≡ 1 → node_pairs s i ≡ use_if r.f0 r.f1
  unfolding flat_map field_pairs fields kinds
  at_container h = by_tag 1 h ∙ append-nil (use_if (f s i 0) (f s i 1)) ∙ if_own

  pub at_choice : r.tag ≡ 2 → node_pairs s i ≡ use_if r.f0 r.f1
  unfolding flat_map field_pairs fields kinds
  at_choice h = by_tag 2 h ∙ append-nil (use_if (f s i 0) (f s i 1)) ∙ if_own

  -- a text
  text_own : f s i 0 ∷ f s i 1 ∷ [] ≡ r.f0 ∷ r.f1 ∷ []
  text_own = λ j. sym node.f0 j ∷ sym node.f1 j ∷ []

  pub at_text : (r.tag ≡ 3) ⊎ ((r.tag ≡ 6) ⊎ ((r.tag ≡ 11) ⊎ ((r.tag ≡ 13) ⊎ (r.tag ≡ 16)))) → node_pairs s i ≡ r.f0 ∷ r.f1 ∷ []
  unfolding flat_map field_pairs fields kinds
  at_text (inl h) = by_tag 3 h ∙ text_own
  at_text (inr (inl h)) = by_tag 6 h ∙ text_own
  at_text (inr (inr (inl h))) = by_tag 11 h ∙ text_own
  at_text (inr (inr (inr (inl h)))) = by_tag 13 h ∙ text_own
  at_text (inr (inr (inr (inr h)))) = by_tag 16 h ∙ text_own

  pub at_more-text : (r.tag ≡ 7) ⊎ (r.tag ≡ 14) → node_pairs s i ≡ r.f0 ∷ r.f1 ∷ []
  unfolding flat_map field_pairs fields kinds
  at_more-text (inl h) = by_tag 7 h ∙ text_own
  at_more-text (inr h) = by_tag 14 h ∙ text_own

  pub at_divert : r.tag ≡ 4 → node_pairs s i ≡ use_if r.f0 r.f1 ++ use_if r.f3 r.f4
  unfolding flat_map field_pairs fields kinds
  at_divert h =
      by_tag 4 h ∙ ap (λ (l : List ℕ). use_if (f s i 0) (f s i 1) ++ l) (append-nil (use_if (f s i 3) (f s i 4)))
      ∙ (λ j. use_if (sym node.f0 j) (sym node.f1 j) ++ use_if (sym node.f3 j) (sym node.f4 j))

  pub at_reference : r.tag ≡ 17 → node_pairs s i ≡ (r.f0 ∷ r.f1 ∷ []) ++ use_if r.f2 r.f3
  unfolding flat_map field_pairs fields kinds
  at_reference h =
      by_tag 17 h ∙ ap (λ (l : List ℕ). (f s i 0 ∷ f s i 1 ∷ []) ++ l) (append-nil (use_if (f s i 2) (f s i 3)))
      ∙ (λ j. (sym node.f0 j ∷ sym node.f1 j ∷ []) ++ use_if (sym node.f2 j) (sym node.f3 j))

  -- a list
  list_same : (at : ℕ) → list_pairs s at ≡ list_pairs (payload_only bytes) at
  unfolding list_pairs list_item_pairs list_origin_pairs list_word
  list_same at = refl

  pub at_list_lem : r.tag ≡ 12 → node_pairs s i ≡ list_pairs (payload_only bytes) r.f0
  unfolding flat_map field_pairs fields kinds
  at_list_lem h = by_tag 12 h ∙ append-nil (list_pairs s (f s i 0)) ∙ ap (list_pairs s) (sym node.f0) ∙ list_same r.f0

  pub list_inside : (tag_of s i ≡ 12 → ListInside s (f s i 0)) → r.tag ≡ 12 → ListInside (payload_only bytes) r.f0
  unfolding list_word
  list_inside g h = rw (← node.f0) at (g (sym node.tag ∙ h))

  -- no text
  pub at_rest : Rest s i r.tag → node_pairs s i ≡ []
  at_rest h = by_tag r.tag refl ∙ own_none s i r.tag h

-- ---- what the calls for the node at a place of the order need

module _ (version : ℕ) (nodes bytes order : List ℕ) (read : Readable (nodes_only version nodes bytes) order) (i j : ℕ)
    (h : j < length nodes / node_words version) (e : i ≡ old_of order j) where
  pub node_needs : {R : Type 0} → R → (i < length nodes / node_words version)
      × ((tag_of (nodes_only version nodes bytes) i ≡ 12 → ListInside (nodes_only version nodes bytes) (f (nodes_only version nodes bytes) i 0)) × R)
  node_needs r =
      let below : i < length nodes / node_words version = omega (arith, read.olds.below j h) in
      (below, (λ t. read.lists i below t, r))

module _ (version : ℕ) (nodes order : List ℕ) (olds : Olds (length nodes / node_words version) order) (i j : ℕ)
    (h : j < length nodes / node_words version) (e : i ≡ old_of order j) where
  pub container_needs : {R : Type 0} → R → (i < length nodes / node_words version) × R
  container_needs r = (omega (arith, olds.below j h), r)
