-- Two drafts that differ in their nodes alone, and there in no word of the tree: what reads the tree says the same of both.
use Prim.Native.Nat.{ℕ, ◌+◌, ◌<◌}
use mathlib.Core.Path.{◌≡◌, refl, ap, ◌∙◌}
use mathlib.Core.List.{List, [], ◌∷◌, ◌++◌}
use mathlib.Core.Bool.{Bool, true, false, cond, ◌&&◌, ◌||◌, not}
use native.Mathlib.Omega.{arith}
use lib.ListN.{length}
use lib.Dec.{leb, ltb, eqb}
use borrow.Author.Tests.{eqb-true, ltb-true}
use Rattle.laws.specs.Refusal.{unless, counts_as, ◌▸◌, first_of}
use Rattle.laws.specs.Counted.{sum_of, join_of, all_of}
use Rattle.laws.specs.Lists.{has}
use Rattle.laws.proofs.Flags.{both_true}
use Rattle.words.specs.Words.{is_none}
use Rattle.texts.specs.Text.{holds, rising}
use Rattle.names.specs.Names.{commands, operators}
use Rattle.image.specs.Sections.{Sections, node_count, child_count, named_count, definition_count, item_count, parent_of, place_of, tag_of, f, child_word, named_word, definition_word, item_word, part_at, good_in, optional_in, inside_among, inside, is_container, good_text}
use Rattle.image.specs.Refusals.{bad_node, bad_text, bad_range, bad_tag, bad_child, bad_draft, draft_unreached, draft_shape}
use Rattle.image.specs.Tags.{container_tag, list_tag}
use Rattle.records.specs.Fields.{Kind, Container, Choice, Command, Divert, Glue, Operator, Tag, BoolValue, IntValue, FloatValue, StringValue, ListValue, TargetValue, PointerValue, Assignment, Reference, Void, Unknown, Field, text, optional, command, operator, node, optionalNode, container, optionalContainer, plain, at_most, children, named, payload, wrong, fields, kind_of}
use Rattle.records.specs.Records.{number_of_children, number_of_named, payload_length_of, list_word, list_item_rule, list_origin_rule, payload_rule, field_rule, first_field, fields_rule, parent_rule, root_right, used_up}
use Rattle.tree.specs.Tree.{child_rule, named_rule, entries_rule, entry_nodes, walk, turns, read_walk, all_seen}
use Rattle.definitions.specs.Definitions.{items_used_up}
use Rattle.draft.specs.Source.{with_nodes}
use Rattle.draft.specs.Draft.{draft_child_rule, draft_named_rule, draft_definition_rule, draft_item_rule, entry_tables_rule, reach_rule, relation_rule, order_rule, shape_rule}

-- as many nodes, of the same tags, parents and places; containers and lists are the same
pub record SameTree (s : Sections) (ws : List ℕ) : Type 0 where
  pub count : node_count (with_nodes s ws) ≡ node_count s
  pub tags : (i : ℕ) → tag_of (with_nodes s ws) i ≡ tag_of s i
  pub parents : (i : ℕ) → parent_of (with_nodes s ws) i ≡ parent_of s i
  pub places : (i : ℕ) → place_of (with_nodes s ws) i ≡ place_of s i
  pub boxes : (i k : ℕ) → tag_of s i ≡ container_tag → k < 7 → f (with_nodes s ws) i k ≡ f s i k
  pub lists : (i : ℕ) → tag_of s i ≡ list_tag → f (with_nodes s ws) i 1 ≡ f s i 1

-- ---- the words that a field reads are fields

abbrev fits : Field → Bool
fits (text k) = ltb (k + 1) 7
fits (optional k) = ltb (k + 1) 7
fits (command k) = ltb (k + 1) 7
fits (operator k) = ltb (k + 1) 7
fits (node k) = ltb k 7
fits (optionalNode k) = ltb k 7
fits (container k) = ltb k 7
fits (optionalContainer k) = ltb k 7
fits (plain k) = true
fits (at_most k n) = ltb k 7
fits children = true
fits named = true
fits payload = true
fits wrong = true

unfoldable all_fit : List Field → Bool
all_fit [] = true
all_fit (x ∷ xs) = fits x && all_fit xs

fields_fit : (k : Kind) → all_fit (fields k) ≡ true
unfolding fields all_fit
fields_fit Container = refl
fields_fit Choice = refl
fields_fit Command = refl
fields_fit Divert = refl
fields_fit Glue = refl
fields_fit Operator = refl
fields_fit Tag = refl
fields_fit BoolValue = refl
fields_fit IntValue = refl
fields_fit FloatValue = refl
fields_fit StringValue = refl
fields_fit ListValue = refl
fields_fit TargetValue = refl
fields_fit PointerValue = refl
fields_fit Assignment = refl
fields_fit Reference = refl
fields_fit Void = refl
fields_fit Unknown = refl

module _ (s : Sections) (ws : List ℕ) (a : SameTree s ws) where
  abbrev r : Sections
  r = with_nodes s ws

  -- ---- nodes

  pub same-inside : (n : ℕ) → inside r n ≡ inside s n
  same-inside n = λ t. inside_among (a.count t) n

  pub same_box : (n : ℕ) → is_container r n ≡ is_container s n
  same_box n = λ t. eqb (a.tags n t) container_tag

  -- a word that only nodes of one tag have
  by_tag : (i tag x y : ℕ) → (tag_of s i ≡ tag → x ≡ y) → cond (eqb (tag_of r i) tag) x 0 ≡ cond (eqb (tag_of s i) tag) y 0
  by_tag i tag x y h = ap (λ (b : ℕ). cond (eqb b tag) x 0) (a.tags i) ∙ by (eqb (tag_of s i) tag) refl
    where
      by : (b : Bool) → eqb (tag_of s i) tag ≡ b → cond b x 0 ≡ cond b y 0
      by true e = h (eqb-true (tag_of s i) tag e)
      by false e = refl

  pub same-children : number_of_children r ≡ number_of_children s
  unfolding number_of_children
  same-children = λ t i. by_tag i container_tag (f r i 4) (f s i 4) (λ e. a.boxes i 4 e (omega arith)) t

  pub same-named : number_of_named r ≡ number_of_named s
  unfolding number_of_named
  same-named = λ t i. by_tag i container_tag (f r i 6) (f s i 6) (λ e. a.boxes i 6 e (omega arith)) t

  pub same-payload : payload_length_of r ≡ payload_length_of s
  unfolding payload_length_of
  same-payload = λ t i. by_tag i list_tag (f r i 1) (f s i 1) (λ e. a.lists i e) t

  -- ---- the tree

  -- what stands in node i's words, if it is a container
  module _ (i : ℕ) (e : tag_of s i ≡ container_tag) where
    first-child : f r i 3 ≡ f s i 3
    first-child = a.boxes i 3 e (omega arith)

    first-named : f r i 5 ≡ f s i 5
    first-named = a.boxes i 5 e (omega arith)

  no_children : (i : ℕ) → is_container s i ≡ false → number_of_children s i ≡ 0
  unfolding number_of_children
  no_children i e = rw e

  no_named : (i : ℕ) → is_container s i ≡ false → number_of_named s i ≡ 0
  unfolding number_of_named
  no_named i e = rw e

  pub same_entries : entry_nodes r ≡ entry_nodes s
  same_entries = λ t i. by i (is_container s i) refl t
    where
      by : (i : ℕ) (b : Bool) → is_container s i ≡ b → entry_nodes r i ≡ entry_nodes s i
      by i true e = unfold entry_nodes child_word named_word in
          λ t. join_of (same-children t i) (λ j. child_word s (first-child i (eqb-true _ _ e) t + j) ∷ [])
          ++ join_of (same-named t i) (λ j. named_word s (first-named i (eqb-true _ _ e) t + j) 2 ∷ [])
      by i false e = unfold entry_nodes join_of in
          let c : number_of_children r i ≡ 0 = (λ t. same-children t i) ∙ no_children i e in
          let n : number_of_named r i ≡ 0 = (λ t. same-named t i) ∙ no_named i e in
          rw (c, n, no_children i e, no_named i e) refl

  pub same-walk : read_walk r ≡ read_walk s
  unfolding read_walk
  same-walk = λ t. walk (λ i. 0) (same_entries t) (turns s) [] (0 ∷ [])

  pub same-reach : reach_rule r ≡ reach_rule s
  unfolding reach_rule all_seen
  same-reach = λ t. unless (all_of (a.count t) (λ i. has i (same-walk t).seen)) draft_unreached

  -- ---- 21

  same-root : root_right r ≡ root_right s
  unfolding root_right
  same-root = λ t. is_none (a.parents 0 t) && is_none (a.places 0 t) && eqb (a.tags 0 t) container_tag

  same-parent : (i : ℕ) → parent_rule r i ≡ parent_rule s i
  unfolding parent_rule
  same-parent i =
      λ t. cond (eqb i 0) 0
      (unless (inside_among (a.count t) (a.parents i t) && eqb (a.tags (a.parents i t) t) container_tag && not (eqb (a.parents i t) i)) bad_node)

  same-child-rule : (i : ℕ) → tag_of s i ≡ container_tag → (j : ℕ) → child_rule r i j ≡ child_rule s i j
  unfolding child_rule child_word
  same-child-rule i e j =
      λ t.
      let x = child_word s (first-child i e t + j) in
      unless (inside_among (a.count t) x && eqb (a.parents x t) i && eqb (a.places x t) j) bad_child

  same-named-rule : (i : ℕ) → tag_of s i ≡ container_tag → (j : ℕ) → named_rule r i j ≡ named_rule s i j
  unfolding named_rule named_word
  same-named-rule i e j =
      λ t.
      let at = first-named i e t in
      let x = named_word s (at + j) 2 in
      unless (good_text s (named_word s (at + j) 0) (named_word s (at + j) 1)) bad_child
      ▸ unless (rising (λ k. part_at s.strings (named_word s (at + k) 0) (named_word s (at + k) 1)) j) bad_child
      ▸ unless (inside_among (a.count t) x && eqb (a.tags x t) container_tag) bad_node
      ▸ unless (eqb (a.parents x t) i) bad_child

  same-entries-rule : (i : ℕ) → entries_rule r i ≡ entries_rule s i
  same-entries-rule i = by (is_container s i) refl
    where
      by : (b : Bool) → is_container s i ≡ b → entries_rule r i ≡ entries_rule s i
      by true e = unfold entries_rule in
          let q = eqb-true (tag_of s i) container_tag e in
          λ t. first_of (same-children t i) (λ j. same-child-rule i q j t) ▸ first_of (same-named t i) (λ j. same-named-rule i q j t)
      by false e = unfold entries_rule first_of in
          let c : number_of_children r i ≡ 0 = (λ t. same-children t i) ∙ no_children i e in
          let n : number_of_named r i ≡ 0 = (λ t. same-named t i) ∙ no_named i e in
          rw (c, n, no_children i e, no_named i e) refl

  same_relation : (i : ℕ) → relation_rule r i ≡ relation_rule s i
  unfolding relation_rule
  same_relation i = λ t. counts_as draft_shape (same-parent i t) ▸ counts_as draft_shape (same-entries-rule i t)

  same-order : (d : ℕ) → order_rule r d ≡ order_rule s d
  unfolding order_rule definition_word item_word
  same-order d = refl

  pub same_shape : shape_rule r ≡ shape_rule s
  unfolding shape_rule
  same_shape = λ t. unless (same-root t) draft_shape ▸ first_of (a.count t) (λ i. same_relation i t) ▸ first_of (definition_count s) (λ d. same-order d t)

  -- ---- 19, after the nodes

  same-used : used_up r ≡ used_up s
  unfolding used_up
  same-used =
      λ t.
      eqb (sum_of (a.count t) (same-children t)) (child_count s) && eqb (sum_of (a.count t) (same-named t)) (named_count s)
      && eqb (sum_of (a.count t) (same-payload t)) (length s.payload)

  same-child : (j : ℕ) → draft_child_rule r j ≡ draft_child_rule s j
  unfolding draft_child_rule child_word
  same-child j = λ t. unless (inside_among (a.count t) (child_word s j)) bad_draft

  same_name : (j : ℕ) → draft_named_rule r j ≡ draft_named_rule s j
  unfolding draft_named_rule named_word
  same_name j =
      λ t. unless (good_text s (named_word s j 0) (named_word s j 1)) bad_draft ▸ unless (inside_among (a.count t) (named_word s j 2)) bad_draft

  same-definition : (d : ℕ) → draft_definition_rule r d ≡ draft_definition_rule s d
  unfolding draft_definition_rule definition_word
  same-definition d = refl

  same-items : items_used_up r ≡ items_used_up s
  unfolding items_used_up definition_word
  same-items = refl

  same_item : (j : ℕ) → draft_item_rule r j ≡ draft_item_rule s j
  unfolding draft_item_rule item_word
  same_item j = refl

  pub same_tables : entry_tables_rule r ≡ entry_tables_rule s
  same_tables =
      λ t.
      unless (same-used t) bad_draft
      ▸ first_of (child_count s) (λ j. same-child j t)
      ▸ first_of (named_count s) (λ j. same_name j t)
      ▸ first_of (definition_count s) (λ d. same-definition d t)
      ▸ unless (same-items t) bad_draft
      ▸ first_of (item_count s) (λ j. same_item j t)

  -- ---- 19, a node whose fields are the same

  same-list : (at len : ℕ) → payload_rule r at len ≡ payload_rule s at len
  unfolding payload_rule list_item_rule list_origin_rule list_word
  same-list at len = refl

  module _ (i : ℕ) (w : (k : ℕ) → k < 7 → f r i k ≡ f s i k) where
    same_field : (x : Field) → fits x ≡ true → field_rule r i x ≡ field_rule s i x
    unfolding field_rule
    same_field (text k) h = let l = ltb-true _ _ h in λ t. unless (good_in s.strings (w k (omega arith) t) (w (k + 1) l t)) bad_text
    same_field (optional k) h = let l = ltb-true _ _ h in λ t. unless (optional_in s.strings (w k (omega arith) t) (w (k + 1) l t)) bad_text
    same_field (command k) h =
        let l = ltb-true _ _ h in
        λ t.
        unless (good_in s.strings (w k (omega arith) t) (w (k + 1) l t)) bad_text
        ▸ unless (holds commands (part_at s.strings (w k (omega arith) t) (w (k + 1) l t))) bad_tag
    same_field (operator k) h =
        let l = ltb-true _ _ h in
        λ t.
        unless (good_in s.strings (w k (omega arith) t) (w (k + 1) l t)) bad_text
        ▸ unless (holds operators (part_at s.strings (w k (omega arith) t) (w (k + 1) l t))) bad_tag
    same_field (node k) h = let l = ltb-true _ _ h in λ t. unless (inside_among (a.count t) (w k l t)) bad_node
    same_field (optionalNode k) h = let l = ltb-true _ _ h in λ t. unless (is_none (w k l t) || inside_among (a.count t) (w k l t)) bad_node
    same_field (container k) h =
        let l = ltb-true _ _ h in λ t. unless (inside_among (a.count t) (w k l t) && eqb (a.tags (w k l t) t) container_tag) bad_node
    same_field (optionalContainer k) h =
        let l = ltb-true _ _ h in
        λ t. unless (is_none (w k l t) || inside_among (a.count t) (w k l t) && eqb (a.tags (w k l t) t) container_tag) bad_node
    same_field (plain k) h = refl
    same_field (at_most k n) h = let l = ltb-true _ _ h in λ t. unless (leb (w k l t) n) bad_tag
    same_field children h =
        λ t. unless (leb (w 3 (omega arith) t + w 4 (omega arith) t) (child_count s) && eqb (w 3 (omega arith) t) (sum_of i (same-children t))) bad_range
    same_field named h =
        λ t. unless (leb (w 5 (omega arith) t + w 6 (omega arith) t) (named_count s) && eqb (w 5 (omega arith) t) (sum_of i (same-named t))) bad_range
    same_field payload h =
        λ t. unless (eqb (w 0 (omega arith) t) (sum_of i (same-payload t))) bad_range ▸ same-list (w 0 (omega arith) t) (w 1 (omega arith) t) t
    same_field wrong h = refl

    same_first : (xs : List Field) → all_fit xs ≡ true → first_field r i xs ≡ first_field s i xs
    unfolding first_field all_fit
    same_first [] h = refl
    same_first (x ∷ xs) h =
        let q = both_true (fits x) (all_fit xs) h in
        λ t. same_field x q.0 t ▸ same_first xs q.1 t

    pub same-fields : fields_rule r i ≡ fields_rule s i
    same-fields = ap (λ (x : ℕ). first_field r i (fields (kind_of x))) (a.tags i) ∙ same_first (fields (kind_of (tag_of s i))) (fields_fit (kind_of (tag_of s i)))
