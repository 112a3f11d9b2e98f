-- How many texts a draft uses: at most two a node, one for a container, and no more in a list than its bytes of payload.
use Prim.Native.Nat.{ℕ, zero, suc, ◌+◌, ◌*◌, ◌≤◌, ◌<◌}
use mathlib.Core.Path.{◌≡◌, refl, sym, ◌∙◌, subst}
use mathlib.Core.List.{List, [], ◌∷◌, ◌++◌}
use mathlib.Core.Bool.{Bool, true, false, cond}
use native.Mathlib.Omega.{arith}
use native.Mathlib.Nat.{suc-mul, mul-one}
use lib.ListN.{length, length-append}
use lib.Dec.{eqb}
use borrow.Author.Tests.{eqb-true}
use Rattle.laws.specs.Counted.{sum_of, join_of}
use Rattle.laws.specs.Lists.{flat_map}
use Rattle.laws.proofs.Members.{sum_add, sum_ext}
use Rattle.image.specs.Sections.{Sections, node_count, named_count, definition_count, item_count, tag_of, f, part_at, text_at, absent}
use Rattle.records.specs.Fields.{Kind, kind_table, kind_in, kinds, kind_of, fields}
use Rattle.records.specs.Records.{number_of_named, payload_length_of, container_of, list_items, list_origins, list_item_word, list_origin_word}
use Rattle.records.proofs.PassedRules.{payload-range, used_up_lem}
use Rattle.tree.specs.Tree.{named_text}
use Rattle.definitions.specs.Definitions.{definition_text, number_of_items, item_text_of}
use Rattle.draft.specs.Draft.{tables_rule}
use Rattle.draft.specs.Numbering.{old_of}
use Rattle.draft.proofs.Rules.{Tables, tables, items_all}
use Rattle.draft.proofs.ReachedNodes.{Numbered}
use Rattle.draft_image.specs.Strings.{text_if, list_texts, field_texts, node_texts, named_texts, definition_texts}
use Rattle.draft_image.proofs.Joins.{all_get, sum_const, join_length}
use Rattle.draft_image.specs.Ready.{node_uses, named_uses, definition_uses, text_uses}
use Rattle.write_text_uses.specs.Uses.{uses_most, Olds}
use Rattle.write_text_uses.proofs.Sums.{sum_ordered}

-- ---- joined parts

join_most : (n c : ℕ) (g : ℕ → List (List ℕ)) → ((j : ℕ) → length (g j) ≤ c) → length (join_of n g) ≤ n * c
unfolding join_of
join_most zero c g h = omega arith
join_most (suc n) c g h = omega (arith, length-append (join_of n g) (g n), join_most n c g h, h n, suc-mul n c)

join_exact : (n : ℕ) (g : ℕ → List (List ℕ)) (c : ℕ → ℕ) → ((j : ℕ) → length (g j) ≡ c j) → length (join_of n g) ≡ sum_of n c
join_exact n g c h = join_length n g ∙ sum_ext n (λ j. length (g j)) c (λ j k. h j)

-- two a part, and what p adds
join_two : (n : ℕ) (g : ℕ → List (List ℕ)) (c p : ℕ → ℕ) → ((j : ℕ) → j < n → length (g j) + c j ≤ 2 + p j)
    → length (join_of n g) + sum_of n c ≤ 2 * n + sum_of n p
unfolding join_of sum_of
join_two zero g c p h = omega arith
join_two (suc n) g c p h = omega (arith, length-append (join_of n g) (g n), join_two n g c p (λ j k. h j (omega arith)), h n (omega arith))

ones : (n : ℕ) → sum_of n (λ j. 1) ≡ n
ones n = omega (arith, sum_const n 1, mul-one n)

-- ---- of a node

module _ (s : Sections) where
  if_one : (at len : ℕ) → length (text_if s at len) ≤ 1
  if_one at len = go (absent at len)
    where
      go : (b : Bool) → length (cond b [] (part_at s.strings at len ∷ [])) ≤ 1
      go true = omega arith
      go false = omega arith

  list-most : (at : ℕ) → length (list_texts s at) ≤ 2 * list_items s at + list_origins s at
  unfolding list_texts
  list-most at =
      omega (
        arith,
        length-append
            (join_of (list_items s at) (λ j. text_if s (list_item_word s at j 0) (list_item_word s at j 1) ++ (text_at s (list_item_word s at j 2) (list_item_word s at j 3) ∷ [])))
            (join_of (list_origins s at) (λ j. text_at s (list_origin_word s at j 0) (list_origin_word s at j 1) ∷ [])),
        join_most (list_items s at) 2 (λ j. text_if s (list_item_word s at j 0) (list_item_word s at j 1) ++ (text_at s (list_item_word s at j 2) (list_item_word s at j 3) ∷ [])) item,
        join_most (list_origins s at) 1 (λ j. text_at s (list_origin_word s at j 0) (list_origin_word s at j 1) ∷ []) (λ j. omega arith),
      )
    where
      item : (j : ℕ) → length (text_if s (list_item_word s at j 0) (list_item_word s at j 1) ++ (text_at s (list_item_word s at j 2) (list_item_word s at j 3) ∷ [])) ≤ 2
      item j =
          omega (
            arith,
            length-append (text_if s (list_item_word s at j 0) (list_item_word s at j 1)) (text_at s (list_item_word s at j 2) (list_item_word s at j 3) ∷ []),
            if_one (list_item_word s at j 0) (list_item_word s at j 1),
          )

  module _ (i : ℕ) where
    -- the texts of a node of tag t and kind k, and one more for a container
    abbrev Most : ℕ → Kind → Type 0
    Most t k = length (flat_map (field_texts s i) (fields k)) + cond (eqb t 1) 1 0 ≤ 2 + cond (eqb t 12) (length (list_texts s (f s i 0))) 0

    -- of each tag with its kind
    abbrev Each : List (ℕ × Kind) → Type 0
    Each [] = Unit {0}
    Each (row ∷ rows) = Most row.0 row.1 × Each rows

    one_text : length (text_if s (f s i 0) (f s i 1) ++ []) ≤ 1
    one_text = omega (arith, length-append (text_if s (f s i 0) (f s i 1)) [], if_one (f s i 0) (f s i 1))

    two_texts : length (text_if s (f s i 0) (f s i 1) ++ (text_if s (f s i 3) (f s i 4) ++ [])) ≤ 2
    two_texts =
        omega (
          arith,
          length-append (text_if s (f s i 0) (f s i 1)) (text_if s (f s i 3) (f s i 4) ++ []),
          length-append (text_if s (f s i 3) (f s i 4)) [],
          if_one (f s i 0) (f s i 1),
          if_one (f s i 3) (f s i 4),
        )

    each : Each kind_table
    unfolding flat_map field_texts fields kinds
    each = (omega (arith, one_text), (omega (arith, one_text), (omega arith, (omega (arith, two_texts), (omega arith, (omega arith, (omega arith, (omega arith, (omega arith, (omega arith, (omega arith, (omega (arith, length-append (list_texts s (f s i 0)) []), (omega arith, (omega arith, (omega arith, (omega (arith, length-append (text_if s (f s i 2) (f s i 3)) [], if_one (f s i 2) (f s i 3)), (omega arith, tt)))))))))))))))))

    most_in : (rows : List (ℕ × Kind)) (t : ℕ) → Each rows → Most t (kind_in rows t)
    unfolding kind_in flat_map field_texts fields
    most_in [] t a = few (eqb t 1)
      where
        few : (b : Bool) → 0 + cond b 1 0 ≤ 2 + cond (eqb t 12) (length (list_texts s (f s i 0))) 0
        few true = omega arith
        few false = omega arith
    most_in (row ∷ rows) t a = by (eqb t row.0) refl (most_in rows t a.1)
      where
        by : (b : Bool) → eqb t row.0 ≡ b → Most t (kind_in rows t) → Most t (cond b row.1 (kind_in rows t))
        by true e later = subst (λ (x : ℕ). Most x row.1) (sym (eqb-true t row.0 e)) a.0
        by false e later = later

    most : (t : ℕ) → Most t (kind_of t)
    most t = most_in kind_table t each

  module _ (t : Tables s) where
    node-most : (i : ℕ) → i < node_count s → length (node_texts s i) + container_of s i ≤ 2 + payload_length_of s i
    unfolding container_of payload_length_of
    node-most i h = go (eqb (tag_of s i) 12) refl (most i (tag_of s i))
      where
        go : (b : Bool) → eqb (tag_of s i) 12 ≡ b
            → length (node_texts s i) + cond (eqb (tag_of s i) 1) 1 0 ≤ 2 + cond b (length (list_texts s (f s i 0))) 0
            → length (node_texts s i) + cond (eqb (tag_of s i) 1) 1 0 ≤ 2 + cond b (f s i 1) 0
        go true e q =
            let l = (payload-range s i (eqb-true (tag_of s i) 12 e) (t.fields i h)).1 in
            omega (arith, list-most (f s i 0), l.exact)
        go false e q = q

    -- ---- of all

    module _ (order : List ℕ) (p : Numbered (node_count s) order) where
      olds : Olds (node_count s) order
      olds = record { below = λ j h. all_get (λ x. x < node_count s) order j p.within t.some }

      nodes-most : length (node_uses s order) + sum_of (node_count s) (container_of s) ≤ 2 * node_count s + length s.payload
      nodes-most =
          omega (
            arith,
            join_two (node_count s) (λ j. node_texts s (old_of order j)) (λ j. container_of s (old_of order j)) (λ j. payload_length_of s (old_of order j))
                (λ j h. node-most (old_of order j) (olds.below j h)),
            sum_ordered (node_count s) order p (container_of s),
            sum_ordered (node_count s) order p (payload_length_of s),
            (used_up_lem s t.used).payload,
          )

      pub named-exact : length (named_uses s order) ≡ named_count s
      unfolding named_texts
      named-exact =
          join_exact (node_count s) (λ j. named_texts s (old_of order j)) (λ j. number_of_named s (old_of order j))
          (λ j. join_exact (number_of_named s (old_of order j)) (λ m. named_text s (old_of order j) m ∷ []) (λ m. 1) (λ m. refl) ∙ ones (number_of_named s (old_of order j)))
          ∙ sum_ordered (node_count s) order p (number_of_named s) ∙ (used_up_lem s t.used).named

    definitions-exact : length (definition_uses s) ≡ definition_count s + item_count s
    unfolding definition_texts
    definitions-exact =
        omega (
          arith,
          join_exact (definition_count s) (definition_texts s) (λ d. 1 + number_of_items s d)
              one_more_lem,
          sum_add (definition_count s) (λ d. 1) (number_of_items s),
          ones (definition_count s),
          items_all s t,
        )
      where
        one_more_lem : (d : ℕ) → length (definition_text s d ∷ join_of (number_of_items s d) (λ m. item_text_of s d m ∷ [])) ≡ 1 + number_of_items s d
        one_more_lem d = omega (arith, join_exact (number_of_items s d) (λ m. item_text_of s d m ∷ []) (λ m. 1) (λ m. refl), ones (number_of_items s d))

-- as many texts, and one more for each container, have a bound in the counts of the draft
pub uses-bound : (s : Sections) (order : List ℕ) → tables_rule s ≡ 0 → Numbered (node_count s) order
    → length (text_uses s order) + sum_of (node_count s) (container_of s) ≤ uses_most s
uses-bound s order p n =
    let t = tables s p in
    omega (
      arith,
      length-append (node_uses s order ++ named_uses s order) (definition_uses s),
      length-append (node_uses s order) (named_uses s order),
      nodes-most s t order n,
      named-exact s t order n,
      definitions-exact s t,
    )

-- the numbers of the image's nodes
pub olds-below : (s : Sections) (order : List ℕ) → tables_rule s ≡ 0 → Numbered (node_count s) order → Olds (node_count s) order
olds-below s order p n = olds s (tables s p) order n
