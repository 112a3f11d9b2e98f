-- The record rules hold of every written node.
use Prim.Native.Nat.{ℕ, ◌+◌, ◌*◌, ◌<◌}
use mathlib.Core.Path.{◌≡◌, refl, sym, ap, ◌∙◌}
use mathlib.Core.List.{List, [], ◌∷◌, ◌++◌}
use mathlib.Core.Bool.{Bool, true, false, cond, ◌&&◌, ◌||◌, not}
use native.Mathlib.Omega.{arith}
use lib.ListN.{length, get_or}
use lib.Dec.{eqb, leb, ltb}
use borrow.Author.Tests.{eqb-false, eq-eqb, ne_eqb, le-leb, ltb-true, ltb-false, not-true}
use Rattle.laws.specs.Refusal.{unless}
use Rattle.laws.specs.Counted.{sum_of, all_of, join_of}
use Rattle.laws.specs.Lists.{flat_map, place_in}
use Rattle.laws.proofs.First.{both, then, pass, passed, first_all, first_of_lem}
use Rattle.laws.proofs.Flags.{both_true, all_at}
use Rattle.laws.proofs.Members.{and-true, or_left, or_right, sum_ext}
use Rattle.words.specs.Words.{NONE, is_none}
use Rattle.texts.specs.Text.{holds}
use Rattle.names.specs.Names.{commands, operators}
use Rattle.image.specs.Sections.{Sections, node_count, child_count, named_count, parent_of, place_of, tag_of, f, text_at, good_text, absent, good_optional, inside, is_container, inside_container, good_bytes}
use Rattle.records.specs.Fields.{Field, text, optional, command, operator, node, optionalNode, container, optionalContainer, plain, at_most, children, named, payload, wrong, kinds, kind_of, fields}
use Rattle.records.specs.Records.{fields_at, number_of_children, number_of_named, payload_length_of, list_word, list_items, list_origins, list_item_word, list_origin_word, list_item_rule, list_origin_rule, payload_rule, field_rule, first_field, fields_rule, parent_rule, node_rule, root_right, used_up}
use Rattle.records.proofs.ByKind.{past-kinds}
use Rattle.draft.specs.Numbering.{old_of, new_of}
use Rattle.draft_image.specs.Strings.{text_if, list_texts, field_texts, offset_of}
use Rattle.draft_image.specs.Written.{field_start, field_words, list_item_out, list_origin_out, list_out, written_with}
use Rattle.draft_image.proofs.Joins.{sum_below}
use Rattle.draft_image.proofs.Lengths.{list_length}
use Rattle.written.proofs.Lists.{or_else, not_of}
use Rattle.draft_image.proofs.HeldTexts.{in_left, in_right, in_one, in_join}
use Rattle.written.proofs.Texts.{good-text, text-back, text-good}
use Rattle.draft_image.proofs.Blocks.{w, child-count, named_count_lem}
use Rattle.written.proofs.Fields.{Given, counted, old_in, old_new, new_in, old_zero, zero_old, inside_lt, new_is, inside_new, parent-word, place-word, tag_word, Reads, ReadsAll, reads, container-same, children_of, named_of, payload_of, start_is, sum_written}
use Rattle.written.proofs.Payload.{strings-small, list-item, list-origin, list_right_lem, list-size, payload-count, payload-word}

-- ---- the fields that only one tag has

unfoldable pub suits : ℕ → Field → Bool
suits tag children = eqb tag 1
suits tag named = eqb tag 1
suits tag payload = eqb tag 12
suits tag (text k) = true
suits tag (optional k) = true
suits tag (command k) = true
suits tag (operator k) = true
suits tag (node k) = true
suits tag (optionalNode k) = true
suits tag (container k) = true
suits tag (optionalContainer k) = true
suits tag (plain k) = true
suits tag (at_most k n) = true
suits tag wrong = true

unfoldable pub all_suit : ℕ → List Field → Bool
all_suit tag [] = true
all_suit tag (x ∷ xs) = suits tag x && all_suit tag xs

pub suited : (tag : ℕ) → all_suit tag (fields (kind_of tag)) ≡ true
unfolding kinds fields suits all_suit
suited tag = go (ltb tag 19) refl
  where
    go : (b : Bool) → ltb tag 19 ≡ b → all_suit tag (fields (kind_of tag)) ≡ true
    go true e = all_at 19 (λ t. all_suit t (fields (kind_of t))) (unfold all_of in refl) tag (ltb-true tag 19 e)
    go false e = rw (past-kinds tag (ltb-false tag 19 e)) refl

module _ {s : Sections} {order : List ℕ} {kept : List (List ℕ)} (g : Given s order kept) where
  abbrev v : Sections
  v = w s order kept

  -- ---- texts by their written words

  strings_are : v.strings ≡ flat_map (λ x. x) kept
  unfolding w written_with
  strings_are = refl

  strings_few : length v.strings < NONE
  strings_few = omega (arith, ap length strings_are, strings-small g)

  pub good_at : (t : List ℕ) (a b : ℕ) → holds kept t ≡ true → good_bytes t ≡ true → a ≡ offset_of kept t → b ≡ length t → good_text v a b ≡ true
  good_at t a b h u p q =
      ap (λ (x : ℕ). good_text v x b) p ∙ ap (good_text v (offset_of kept t)) q ∙ text-good v kept strings_are strings_few t h u

  pub text_at_lem : (t : List ℕ) (a b : ℕ) → holds kept t ≡ true → a ≡ offset_of kept t → b ≡ length t → text_at v a b ≡ t
  text_at_lem t a b h p q = ap (λ (x : ℕ). text_at v x b) p ∙ ap (text_at v (offset_of kept t)) q ∙ text-back v kept strings_are strings_few t h

  optional_at : (at len a b : ℕ) → good_optional s at len ≡ true → ((t : List ℕ) → holds (text_if s at len) t ≡ true → holds kept t ≡ true)
      → a ≡ cond (absent at len) NONE (offset_of kept (text_at s at len)) → b ≡ cond (absent at len) NONE (length (text_at s at len)) → good_optional v a b ≡ true
  optional_at at len a b h k p q = go (absent at len) refl k p q
    where
      go : (c : Bool) → absent at len ≡ c → ((t : List ℕ) → holds (cond c [] (text_at s at len ∷ [])) t ≡ true → holds kept t ≡ true)
          → a ≡ cond c NONE (offset_of kept (text_at s at len)) → b ≡ cond c NONE (length (text_at s at len)) → good_optional v a b ≡ true
      go true e l x y = or_left (absent a b) (good_text v a b) (and-true (is_none a) (is_none b) (eq-eqb a NONE x) (eq-eqb b NONE y))
      go false e l x y =
          or_right (absent a b) (good_text v a b)
          (good_at (text_at s at len) a b (l (text_at s at len) (in_one (text_at s at len))) (good-text s at len (or_else (absent at len) (good_text s at len) h e)) x y)

  -- ---- numbers by their written words

  pub node_at : (i a : ℕ) → inside s i ≡ true → a ≡ new_of order i → inside v a ≡ true
  node_at i a h e = ap (inside v) e ∙ inside_new g i (inside_lt g i h)

  pub container_new : (i : ℕ) → i < node_count s → is_container v (place_in order i) ≡ is_container s i
  container_new i h = container-same g (place_in order i) (new_in g i h) ∙ ap (is_container s) (old_new g i h)

  pub container_at : (i a : ℕ) → inside_container s i ≡ true → a ≡ new_of order i → inside_container v a ≡ true
  container_at i a h e =
      let q = both_true (inside s i) (is_container s i) h in
      let z = inside_lt g i q.0 in
      and-true (inside v a) (is_container v a) (node_at i a q.0 e)
      (ap (is_container v) (e ∙ new_is g i z) ∙ container_new i z ∙ q.1)

  none_at : (i a : ℕ) → is_none i ≡ true → a ≡ new_of order i → is_none a ≡ true
  none_at i a h e = eq-eqb a NONE (e ∙ (unfold new_of in rw h refl))

  or_at : (i a : ℕ) (t u : Bool) → (is_none i || t) ≡ true → (t ≡ true → u ≡ true) → a ≡ new_of order i → (is_none a || u) ≡ true
  or_at i a t u h k e = go (is_none i) refl h
    where
      go : (b : Bool) → is_none i ≡ b → (b || t) ≡ true → (is_none a || u) ≡ true
      go true q r = or_left (is_none a) u (none_at i a q e)
      go false q r = or_right (is_none a) u (k r)

  -- ---- lists

  module _ (j : ℕ) (h : j < node_count s) (e : eqb (tag_of s (old_of order j)) 12 ≡ true) where
    -- where the list's payload starts in the draft, and in the image
    abbrev from : ℕ
    from = f s (old_of order j) 0

    abbrev to : ℕ
    to = sum_of j (λ m. payload_length_of s (old_of order m))

    pub items-same : list_items v to ≡ list_items s from
    items-same = payload-word g j 0 h e (omega (arith, list_length s order kept from)) ∙ (unfold list_out in refl)

    pub origins-same : list_origins v to ≡ list_origins s from
    origins-same = payload-word g j 1 h e (omega (arith, list_length s order kept from)) ∙ (unfold list_out in refl)

    pub item-words : (m k : ℕ) → m < list_items s from → k < 5 → list_item_word v to m k ≡ get_or (list_item_out s order kept from m) k 0
    item-words m k q r =
        ap (list_word v to) place ∙ payload-word g j (2 + m * 5 + k) h e (omega (arith, list_length s order kept from))
        ∙ list-item s order kept from m k q r
      where
        place : 8 + m * 20 + k * 4 ≡ 4 * (2 + m * 5 + k)
        place = omega arith

    pub origin-words : (m k : ℕ) → m < list_origins s from → k < 2 → list_origin_word v to m k ≡ get_or (list_origin_out s order kept from m) k 0
    origin-words m k q r =
        ap (list_word v to) place ∙ payload-word g j (2 + list_items s from * 5 + m * 2 + k) h e (omega (arith, list_length s order kept from))
        ∙ list-origin s order kept from m k q r
      where
        place : 8 + list_items v to * 20 + m * 8 + k * 4 ≡ 4 * (2 + list_items s from * 5 + m * 2 + k)
        place = omega (arith, items-same)

    -- where the texts of the list are stored
    module _ (k : (t : List ℕ) → holds (list_texts s from) t ≡ true → holds kept t ≡ true) where
      abbrev origin : ℕ → List (List ℕ)
      origin m = text_if s (list_item_word s from m 0) (list_item_word s from m 1)

      abbrev name : ℕ → List ℕ
      name m = text_at s (list_item_word s from m 2) (list_item_word s from m 3)

      abbrev other : ℕ → List ℕ
      other m = text_at s (list_origin_word s from m 0) (list_origin_word s from m 1)

      pub item-text : (m : ℕ) → m < list_items s from → (t : List ℕ) → holds (origin m ++ (name m ∷ [])) t ≡ true → holds kept t ≡ true
      unfolding list_texts
      item-text m q t z =
          k t (in_left (join_of (list_items s from) (λ o. origin o ++ (name o ∷ []))) (join_of (list_origins s from) (λ o. other o ∷ [])) t
          (in_join (list_items s from) m (λ o. origin o ++ (name o ∷ [])) t q z))

      pub origin-text : (m : ℕ) → m < list_origins s from → holds kept (other m) ≡ true
      unfolding list_texts
      origin-text m q =
          k (other m) (in_right (join_of (list_items s from) (λ o. origin o ++ (name o ∷ []))) (join_of (list_origins s from) (λ o. other o ∷ [])) (other m)
          (in_join (list_origins s from) m (λ o. other o ∷ []) (other m) q (in_one (other m))))

      item-kept : (m : ℕ) → m < list_items s from → list_item_rule s from m ≡ 0 → list_item_rule v to m ≡ 0
      unfolding list_item_rule list_item_out
      item-kept m q p =
          then _ _
          (pass _ 10 (optional_at (list_item_word s from m 0) (list_item_word s from m 1) (list_item_word v to m 0) (list_item_word v to m 1) (passed _ 9 (both _ _ p).0)
          (λ t z. item-text m q t (in_left (origin m) (name m ∷ []) t z)) (item-words m 0 q (omega arith)) (item-words m 1 q (omega arith))))
          (pass _ 10 (good_at (name m) (list_item_word v to m 2) (list_item_word v to m 3)
          (item-text m q (name m) (in_right (origin m) (name m ∷ []) (name m) (in_one (name m))))
          (good-text s _ _ (passed _ 9 (both _ _ p).1)) (item-words m 2 q (omega arith)) (item-words m 3 q (omega arith))))

      origin-kept : (m : ℕ) → m < list_origins s from → list_origin_rule s from m ≡ 0 → list_origin_rule v to m ≡ 0
      unfolding list_origin_rule list_origin_out
      origin-kept m q p =
          pass _ 10 (good_at (other m) (list_origin_word v to m 0) (list_origin_word v to m 1) (origin-text m q) (good-text s _ _ (passed _ 9 p))
          (origin-words m 0 q (omega arith)) (origin-words m 1 q (omega arith)))

      pub list-kept : payload_rule v to (f s (old_of order j) 1) ≡ 0
      unfolding payload_rule
      list-kept =
          let right = list_right_lem g (old_of order j) (old_in g j h) e in
          let size = list-size g (old_of order j) (old_in g j h) e in
          let pays : payload_length_of s (old_of order j) ≡ f s (old_of order j) 1 = unfold payload_length_of in rw e refl in
          let below = sum_below j (node_count s) (λ m. payload_length_of s (old_of order m)) h in
          then _ _
          (pass _ 11 (and-true _ _
          (and-true _ _ (le-leb (to + f s (old_of order j) 1) (length v.payload) (omega (arith, payload-count g)))
          (le-leb 8 (f s (old_of order j) 1) (omega arith)))
          (eq-eqb (f s (old_of order j) 1) (8 + list_items v to * 20 + list_origins v to * 8) (omega (arith, items-same, origins-same)))))
          (then _ _
          (first_of_lem (list_items v to) (list_item_rule v to)
          (λ m q. let z : m < list_items s from = omega (arith, items-same) in
          item-kept m z (first_all (list_items s from) (list_item_rule s from) (both _ _ (both _ _ right).1).0 m z)))
          (first_of_lem (list_origins v to) (list_origin_rule v to)
          (λ m q. let z : m < list_origins s from = omega (arith, origins-same) in
          origin-kept m z (first_all (list_origins s from) (list_origin_rule s from) (both _ _ (both _ _ right).1).1 m z))))

  -- ---- parents

  -- a node's parent in the draft, and in the image
  pub parent-draft : (i : ℕ) → i < node_count s → (i ≡ 0 → ⊥) → (inside_container s (parent_of s i) ≡ true) × (parent_of s i ≡ i → ⊥)
  unfolding parent_rule
  parent-draft i h d =
      let q = both_true (inside_container s (parent_of s i)) _ (passed _ 8 (rw (ne_eqb i 0 d) at (g.taken.shape.parents i h))) in
      (q.0, eqb-false (parent_of s i) i (not-true (eqb (parent_of s i) i) q.1))

  pub parent_lt : (i : ℕ) → i < node_count s → (i ≡ 0 → ⊥) → parent_of s i < node_count s
  parent_lt i h d = inside_lt g (parent_of s i) (both_true (inside s (parent_of s i)) _ (parent-draft i h d).0).0

  pub parent_new : (j : ℕ) → j < node_count s → (old_of order j ≡ 0 → ⊥) → parent_of v j ≡ place_in order (parent_of s (old_of order j))
  parent_new j h d =
      parent-word g j h ∙ new_is g (parent_of s (old_of order j)) (parent_lt (old_of order j) (old_in g j h) d)

  parent-kept : (j : ℕ) → j < node_count s → parent_rule v j ≡ 0
  unfolding parent_rule
  parent-kept j h = go (eqb j 0) refl
    where
      i : ℕ
      i = old_of order j

      go : (b : Bool) → eqb j 0 ≡ b → cond b 0 (unless (inside_container v (parent_of v j) && not (eqb (parent_of v j) j)) 9) ≡ 0
      go true e = refl
      go false e =
          let d : i ≡ 0 → ⊥ = λ z. eqb-false j 0 e (zero_old g j h z) in
          let p = parent-draft i (old_in g j h) d in
          pass _ 9 (and-true (inside_container v (parent_of v j)) _ (container_at (parent_of s i) (parent_of v j) p.0 (parent-word g j h))
          (not_of _ (ne_eqb (parent_of v j) j
          (λ z. p.1 (sym (old_new g (parent_of s i) (parent_lt i (old_in g j h) d)) ∙ ap (old_of order) (sym (parent_new j h d) ∙ z))))))

  -- ---- fields

  module _ (j : ℕ) (h : j < node_count s) where
    abbrev i : ℕ
    i = old_of order j

    pub children_are : eqb (tag_of s i) 1 ≡ true → f s i 4 ≡ number_of_children s i
    unfolding number_of_children
    children_are e = rw e refl

    pub named_are : eqb (tag_of s i) 1 ≡ true → f s i 6 ≡ number_of_named s i
    unfolding number_of_named
    named_are e = rw e refl

    -- a known name
    name-kept : (names : List (List ℕ)) (k : ℕ) → (let t = text_at s (f s i k) (f s i (k + 1)) in holds kept t ≡ true → f v j k ≡ offset_of kept t → f v j (k + 1) ≡ length t
        → holds names t ≡ true → holds names (text_at v (f v j k) (f v j (k + 1))) ≡ true)
    name-kept names k l p q r = ap (holds names) (text_at_lem _ (f v j k) (f v j (k + 1)) l p q) ∙ r

    field_kept : (x : Field) → suits (tag_of s i) x ≡ true → Reads g j (field_start x) (field_words s order kept i x)
        → ((t : List ℕ) → holds (field_texts s i x) t ≡ true → holds kept t ≡ true) → field_rule s i x ≡ 0 → field_rule v j x ≡ 0
    unfolding field_words field_texts field_rule suits
    field_kept (text k) z r l p =
        pass _ 10 (good_at _ (f v j k) (f v j (k + 1)) (l _ (in_one _)) (good-text s _ _ (passed _ 9 p)) r.0 r.1.0)
    field_kept (optional k) z r l p = pass _ 10 (optional_at (f s i k) (f s i (k + 1)) (f v j k) (f v j (k + 1)) (passed _ 9 p) l r.0 r.1.0)
    field_kept (command k) z r l p =
        then _ _ (pass _ 10 (good_at _ (f v j k) (f v j (k + 1)) (l _ (in_one _)) (good-text s _ _ (passed _ 9 (both _ _ p).0)) r.0 r.1.0))
        (pass _ 12 (name-kept commands k (l _ (in_one _)) r.0 r.1.0 (passed _ 11 (both _ _ p).1)))
    field_kept (operator k) z r l p =
        then _ _ (pass _ 10 (good_at _ (f v j k) (f v j (k + 1)) (l _ (in_one _)) (good-text s _ _ (passed _ 9 (both _ _ p).0)) r.0 r.1.0))
        (pass _ 12 (name-kept operators k (l _ (in_one _)) r.0 r.1.0 (passed _ 11 (both _ _ p).1)))
    field_kept (node k) z r l p = pass _ 9 (node_at (f s i k) (f v j k) (passed _ 8 p) r.0)
    field_kept (optionalNode k) z r l p =
        pass _ 9 (or_at (f s i k) (f v j k) (inside s (f s i k)) (inside v (f v j k)) (passed _ 8 p) (λ q. node_at (f s i k) (f v j k) q r.0) r.0)
    field_kept (container k) z r l p = pass _ 9 (container_at (f s i k) (f v j k) (passed _ 8 p) r.0)
    field_kept (optionalContainer k) z r l p =
        pass _ 9 (or_at (f s i k) (f v j k) (inside_container s (f s i k)) (inside_container v (f v j k)) (passed _ 8 p)
        (λ q. container_at (f s i k) (f v j k) q r.0) r.0)
    field_kept (plain k) z r l p = refl
    field_kept (at_most k n) z r l p = pass _ 12 (ap (λ (x : ℕ). leb x n) r.0 ∙ passed _ 11 p)
    field_kept children z r l p =
        pass _ 11 (and-true _ _
        (le-leb (f v j 3 + f v j 4) (child_count v)
        (omega (
          arith,
          r.0,
          r.1.0,
          children_are z,
          start_is g (number_of_children s) j h,
          child-count s order kept,
          sum_below j (node_count s) (λ m. number_of_children s (old_of order m)) h,
        )))
        (eq-eqb _ _ (r.0 ∙ sym (sum_written g (number_of_children v) (number_of_children s) (children_of g) j h))))
    field_kept named z r l p =
        pass _ 11 (and-true _ _
        (le-leb (f v j 5 + f v j 6) (named_count v)
        (omega (
          arith,
          r.0,
          r.1.0,
          named_are z,
          start_is g (number_of_named s) j h,
          named_count_lem s order kept,
          sum_below j (node_count s) (λ m. number_of_named s (old_of order m)) h,
        )))
        (eq-eqb _ _ (r.0 ∙ sym (sum_written g (number_of_named v) (number_of_named s) (named_of g) j h))))
    field_kept payload z r l p =
        then _ _ (pass _ 11 (eq-eqb _ _ (r.0 ∙ sym (sum_written g (payload_length_of v) (payload_length_of s) (payload_of g) j h))))
        (ap (λ (x : ℕ). payload_rule v x (f v j 1)) (r.0 ∙ start_is g (payload_length_of s) j h) ∙ ap (payload_rule v (sum_of j (λ m. payload_length_of s (old_of order m)))) r.1.0
        ∙ list-kept j h z l)
    field_kept wrong z r l p = p

    fields-kept : (xs : List Field) → all_suit (tag_of s i) xs ≡ true → ReadsAll g j i xs
        → ((t : List ℕ) → holds (flat_map (field_texts s i) xs) t ≡ true → holds kept t ≡ true) → first_field s i xs ≡ 0 → first_field v j xs ≡ 0
    unfolding first_field flat_map all_suit
    fields-kept [] z r l p = refl
    fields-kept (x ∷ xs) z r l p =
        let y = both_true (suits (tag_of s i) x) (all_suit (tag_of s i) xs) z in
        then (field_rule v j x) (first_field v j xs)
        (field_kept x y.0 r.0 (λ t q. l t (in_left (field_texts s i x) (flat_map (field_texts s i) xs) t q)) (both _ _ p).0)
        (fields-kept xs y.1 r.1 (λ t q. l t (in_right (field_texts s i x) (flat_map (field_texts s i) xs) t q)) (both _ _ p).1)

    pub node-fields : fields_rule v j ≡ 0
    node-fields =
        ap (λ (tag : ℕ). first_field v j (fields (kind_of tag))) (tag_word g j h)
        ∙ fields-kept (fields_at s i) (suited (tag_of s i)) (reads g j h) (g.stored.nodes j h) (g.taken.tables.fields i (old_in g j h))

    pub node_kept : node_rule v j ≡ 0
    unfolding node_rule
    node_kept = then _ _ (parent-kept j h) node-fields

  -- ---- the root, and what is used up

  pub root_kept : root_right v ≡ true
  unfolding root_right
  root_kept =
      let z = g.taken.tables.some in
      let r = both_true (is_none (parent_of s 0) && is_none (place_of s 0)) (is_container s 0) (unfold root_right in g.taken.shape.root) in
      let q = both_true (is_none (parent_of s 0)) (is_none (place_of s 0)) r.0 in
      let back = old_zero g in
      and-true _ _
      (and-true _ _ (none_at (parent_of s 0) (parent_of v 0) q.0 (parent-word g 0 z ∙ ap (λ (x : ℕ). new_of order (parent_of s x)) back))
      (ap is_none (place-word g 0 z ∙ ap (place_of s) back) ∙ q.1))
      (container-same g 0 z ∙ ap (is_container s) back ∙ r.1)

  all_before : (a b : ℕ → ℕ) → ((j : ℕ) → j < node_count s → a j ≡ b (old_of order j)) → sum_of (node_count v) a ≡ sum_of (node_count s) (λ j. b (old_of order j))
  all_before a b e = ap (λ (n : ℕ). sum_of n a) (counted g) ∙ sum_ext (node_count s) a (λ j. b (old_of order j)) e

  pub children-used : sum_of (node_count v) (number_of_children v) ≡ child_count v
  children-used = all_before (number_of_children v) (number_of_children s) (children_of g) ∙ sym (child-count s order kept)

  pub named-used : sum_of (node_count v) (number_of_named v) ≡ named_count v
  named-used = all_before (number_of_named v) (number_of_named s) (named_of g) ∙ sym (named_count_lem s order kept)

  pub used_up_lem : used_up v ≡ true
  unfolding used_up
  used_up_lem =
      and-true _ _ (and-true _ _ (eq-eqb _ _ children-used) (eq-eqb _ _ named-used))
      (eq-eqb _ _ (all_before (payload_length_of v) (payload_length_of s) (payload_of g) ∙ sym (payload-count g)))
