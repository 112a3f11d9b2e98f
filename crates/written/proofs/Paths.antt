-- Paths: the canonical path of a written container is that of the draft's, and is UTF-8.
use Prim.Native.Nat.{ℕ, zero, suc, ◌<◌}
use mathlib.Core.Path.{◌≡◌, refl, sym, ap, ◌∙◌, subst}
use mathlib.Core.List.{List, [], ◌∷◌}
use mathlib.Core.Bool.{Bool, true, false, cond, ◌||◌}
use native.Mathlib.Omega.{arith}
use lib.ListN.{length}
use lib.Dec.{eqb}
use borrow.Author.Tests.{eqb-true, eqb-false, eq-eqb, ne_eqb}
use Rattle.laws.specs.Lists.{flat_map, place_in}
use Rattle.laws.proofs.First.{both, passed}
use Rattle.laws.proofs.Flags.{both_true}
use Rattle.words.specs.Words.{NONE}
use Rattle.laws.proofs.Lists.{below_none, below_cons}
use Rattle.texts.specs.Text.{holds}
use Rattle.texts.specs.Decimal.{decimal}
use Rattle.texts.specs.Dots.{dot}
use Rattle.texts.proofs.Decimal.{decimal-digits}
use Rattle.image.proofs.GoodBytes.{good-empty, good_append, good-ascii}
use Rattle.image.specs.Sections.{Sections, node_count, parent_of, place_of, tag_of, f, text_at, good_text, absent, inside, is_container, good_bytes}
use Rattle.records.specs.Fields.{kinds, kind_of, fields}
use Rattle.records.specs.Records.{field_rule, first_field}
use Rattle.index.specs.Paths.{no_name, nameless, piece_of, piece, joined_by_dot, path_from, canonical_path, name_or_place}
use Rattle.draft.specs.Numbering.{old_of}
use Rattle.draft_image.specs.Strings.{text_if, field_texts, offset_of}
use Rattle.draft_image.specs.Written.{field_words}
use Rattle.written.proofs.Lists.{or_else}
use Rattle.draft_image.proofs.HeldTexts.{in_left, in_one}
use Rattle.written.proofs.Texts.{offset_inside, good-text, good_length}
use Rattle.draft_image.proofs.Blocks.{w}
use Rattle.written.proofs.Fields.{Given, counted, old_in, old_new, new_in, old_zero, new_zero, zero_old, place-word, container-reads}
use Rattle.written.proofs.Payload.{strings-small}
use Rattle.written.proofs.Rules.{text_at_lem, parent-draft, parent_lt, parent_new}

decimal-good : (n : ℕ) → good_bytes (decimal n) ≡ true
decimal-good n = good-ascii (decimal n) (λ x m. omega (arith, (decimal-digits n x m).1))

joined-good : (p : ℕ) (a b : List ℕ) → good_bytes a ≡ true → good_bytes b ≡ true → good_bytes (joined_by_dot p a b) ≡ true
joined-good zero a b x y = y
joined-good (suc p) a b x y =
    good_append a (dot ∷ b) x (good_append (dot ∷ []) b (good-ascii (dot ∷ []) (below_cons 128 dot [] (omega arith) (below_none 128))) y)

joined_same : (p q : ℕ) (a b : List ℕ) → (p ≡ 0 → q ≡ 0) → (q ≡ 0 → p ≡ 0) → joined_by_dot p a b ≡ joined_by_dot q a b
joined_same zero zero a b x y = refl
joined_same zero (suc q) a b x y = absurd (omega (arith, x refl))
joined_same (suc p) zero a b x y = absurd (omega (arith, y refl))
joined_same (suc p) (suc q) a b x y = refl

cond_same : (x y : ℕ) (a b c d : List ℕ) → x ≡ y → a ≡ b → c ≡ d → cond (eqb x 0) a c ≡ cond (eqb y 0) b d
cond_same x y a b c d p q r = rw (p, q, r) refl

module _ {s : Sections} {order : List ℕ} {kept : List (List ℕ)} (g : Given s order kept) where
  abbrev v : Sections
  v = w s order kept

  -- ---- a container's name and piece

  name-good : (i : ℕ) → i < node_count s → is_container s i ≡ true → absent (f s i 0) (f s i 1) ≡ false → good_text s (f s i 0) (f s i 1) ≡ true
  unfolding kinds fields first_field field_rule
  name-good i h c e =
      or_else (absent (f s i 0) (f s i 1)) (good_text s (f s i 0) (f s i 1))
      (passed _ 9 (both _ _ (subst (λ (tag : ℕ). first_field s i (fields (kind_of tag)) ≡ 0) (eqb-true (tag_of s i) 1 c) (g.taken.tables.fields i h))).0) e

  piece-good : (i : ℕ) → i < node_count s → is_container s i ≡ true → good_bytes (piece s i) ≡ true
  unfolding piece piece_of nameless
  piece-good i h c = go (absent (f s i 0) (f s i 1)) refl (eqb (f s i 1) 0)
    where
      go : (a : Bool) → absent (f s i 0) (f s i 1) ≡ a → (b : Bool) → good_bytes (cond (a || b) (decimal (place_of s i)) (text_at s (f s i 0) (f s i 1))) ≡ true
      go true e b = decimal-good (place_of s i)
      go false e true = decimal-good (place_of s i)
      go false e false = good-text s (f s i 0) (f s i 1) (name-good i h c e)

  module _ (j : ℕ) (h : j < node_count s) (c : is_container s (old_of order j) ≡ true) where
    abbrev i : ℕ
    i = old_of order j

    abbrev name : List ℕ
    name = text_at s (f s i 0) (f s i 1)

    name-stored : absent (f s i 0) (f s i 1) ≡ false → holds kept name ≡ true
    unfolding kinds fields field_texts flat_map
    name-stored e =
        g.stored.nodes j h name
        (subst (λ (tag : ℕ). holds (flat_map (field_texts s i) (fields (kind_of tag))) name ≡ true) (sym (eqb-true (tag_of s i) 1 c))
        (in_left (text_if s (f s i 0) (f s i 1)) _ name (rw e (in_one name))))

    piece-same : piece v j ≡ piece s i
    unfolding piece piece_of nameless fields field_words
    piece-same =
        let r = (container-reads g j h c).0 in
        go (absent (f s i 0) (f s i 1)) refl r.0 r.1.0
      where
        go : (a : Bool) → absent (f s i 0) (f s i 1) ≡ a → f v j 0 ≡ cond a NONE (offset_of kept name) → f v j 1 ≡ cond a NONE (length name)
            → cond (absent (f v j 0) (f v j 1) || eqb (f v j 1) 0) (decimal (place_of v j)) (text_at v (f v j 0) (f v j 1))
            ≡ cond (a || eqb (f s i 1) 0) (decimal (place_of s i)) name
        go true e p q = rw (eq-eqb (f v j 0) NONE p, eq-eqb (f v j 1) NONE q) (ap decimal (place-word g j h))
        go false e p q =
            let held = name-stored e in
            let inner = offset_inside kept name held in
            let small = strings-small g in
            rw (ne_eqb (f v j 0) NONE (λ z. omega arith))
            (cond_same (f v j 1) (f s i 1) (decimal (place_of v j)) (decimal (place_of s i)) (text_at v (f v j 0) (f v j 1)) name
            (q ∙ good_length s (f s i 0) (f s i 1) (name-good i (old_in g j h) c e)) (ap decimal (place-word g j h))
            (text_at_lem g name (f v j 0) (f v j 1) held p q))

    -- a name is absent or empty where the draft's is
    no_name-same : no_name (f v j 0) (f v j 1) ≡ no_name (f s i 0) (f s i 1)
    unfolding fields field_words
    no_name-same =
        let r = (container-reads g j h c).0 in
        go (absent (f s i 0) (f s i 1)) refl r.0 r.1.0
      where
        go : (a : Bool) → absent (f s i 0) (f s i 1) ≡ a → f v j 0 ≡ cond a NONE (offset_of kept name) → f v j 1 ≡ cond a NONE (length name)
            → no_name (f v j 0) (f v j 1) ≡ (a || eqb (f s i 1) 0)
        go true e p q = rw (eq-eqb (f v j 0) NONE p, eq-eqb (f v j 1) NONE q) refl
        go false e p q =
            let held = name-stored e in
            let inner = offset_inside kept name held in
            let small = strings-small g in
            rw (ne_eqb (f v j 0) NONE (λ z. omega arith))
            (ap (λ (m : ℕ). eqb m 0) (q ∙ good_length s (f s i 0) (f s i 1) (name-good i (old_in g j h) c e)))

    pub name_or_place-same : name_or_place v j ≡ name_or_place s i
    name_or_place-same = rw (no_name-same, place-word g j h)

  -- ---- paths

  path-good-from : (n i : ℕ) → i < node_count s → is_container s i ≡ true → good_bytes (path_from n s i) ≡ true
  unfolding path_from
  path-good-from zero i h c = good-empty
  path-good-from (suc n) i h c = go (eqb i 0) refl (path-good-from n (parent_of s i))
    where
      go : (b : Bool) → eqb i 0 ≡ b → (parent_of s i < node_count s → is_container s (parent_of s i) ≡ true → good_bytes (path_from n s (parent_of s i)) ≡ true)
          → good_bytes (cond b [] (joined_by_dot (parent_of s i) (path_from n s (parent_of s i)) (piece s i))) ≡ true
      go true e r = good-empty
      go false e r =
          let d = eqb-false i 0 e in
          joined-good (parent_of s i) (path_from n s (parent_of s i)) (piece s i)
          (r (parent_lt g i h d) (both_true (inside s (parent_of s i)) _ (parent-draft g i h d).0).1) (piece-good i h c)

  pub path-good : (i : ℕ) → i < node_count s → is_container s i ≡ true → good_bytes (canonical_path s i) ≡ true
  path-good i h c = path-good-from (node_count s) i h c

  path-from : (n j : ℕ) → j < node_count s → is_container s (old_of order j) ≡ true → path_from n v j ≡ path_from n s (old_of order j)
  unfolding path_from
  path-from zero j h c = refl
  path-from (suc n) j h c = go (eqb j 0) refl (eqb i 0) refl (path-from n (parent_of v j))
    where
      i : ℕ
      i = old_of order j

      k : i < node_count s
      k = old_in g j h

      go : (a : Bool) → eqb j 0 ≡ a → (b : Bool) → eqb i 0 ≡ b
          → (parent_of v j < node_count s → is_container s (old_of order (parent_of v j)) ≡ true → path_from n v (parent_of v j) ≡ path_from n s (old_of order (parent_of v j)))
          → cond a [] (joined_by_dot (parent_of v j) (path_from n v (parent_of v j)) (piece v j)) ≡ cond b [] (joined_by_dot (parent_of s i) (path_from n s (parent_of s i)) (piece s i))
      go true x true y r = refl
      go true x false y r = absurd (eqb-false i 0 y (ap (old_of order) (eqb-true j 0 x) ∙ old_zero g))
      go false x true y r = absurd (eqb-false j 0 x (zero_old g j h (eqb-true i 0 y)))
      go false x false y r =
          let d = eqb-false i 0 y in
          let q = parent_of s i in
          let low = parent_lt g i k d in
          let up = parent_new g j h d in
          let back : old_of order (parent_of v j) ≡ q = ap (old_of order) up ∙ old_new g q low in
          let box = (both_true (inside s q) (is_container s q) (parent-draft g i k d).0).1 in
          let front = r (subst (λ (m : ℕ). m < node_count s) (sym up) (new_in g q low)) (ap (is_container s) back ∙ box) ∙ ap (path_from n s) back in
          ap (λ (l : List ℕ). joined_by_dot (parent_of v j) l (piece v j)) front
          ∙ ap (joined_by_dot (parent_of v j) (path_from n s q)) (piece-same j h c)
          ∙ joined_same (parent_of v j) q (path_from n s q) (piece s i)
          (λ z. sym back ∙ ap (old_of order) z ∙ old_zero g)
          (λ z. up ∙ ap (place_in order) z ∙ new_zero g)

  pub path-same : (j : ℕ) → j < node_count s → is_container s (old_of order j) ≡ true → canonical_path v j ≡ canonical_path s (old_of order j)
  path-same j h c = ap (λ (n : ℕ). path_from n v j) (counted g) ∙ path-from (node_count s) j h c
