-- The rules by kind, over a record and the numbers around it, are those of the node that they show.
use Prim.Native.Nat.{ℕ, ◌+◌, ◌≤◌, ◌<◌}
use mathlib.Core.Path.{◌≡◌, refl, sym, ap, ◌∙◌}
use mathlib.Core.Logic.{◌⊎◌, inl, inr, ⊎_elim}
use mathlib.Core.Bool.{Bool, true, false, cond, not, ◌&&◌, ◌||◌}
use mathlib.Core.List.{List, [], ◌∷◌}
use native.Mathlib.Omega.{arith}
use native.Mathlib.Decide.{dec_lt}
use native.Mathlib.Nat.{eq-or-lt_of_le}
use lib.Dec.{leb, ltb, eqb}
use borrow.Author.Tests.{eq-eqb, ne_eqb, eqb-true, ltb-true, not-true, not-false}
use Rattle.laws.proofs.Flags.{up, both_true}
use Rattle.laws.specs.Refusal.{unless, ◌▸◌, first_of}
use Rattle.laws.proofs.First.{first_all, passed}
use Rattle.laws.proofs.Chains.{skip, last}
use Rattle.words.specs.Words.{NONE}
use Rattle.image.specs.declared.EntryCounts.{EntryCounts}
use Rattle.image.specs.declared.NodeRecord.{NodeRecord}
use Rattle.image.specs.Counted.{counts_with}
use Rattle.image.specs.Entries.{node_in}
use Rattle.image.specs.Sections.{Sections, node_count, tag_of, f, inside, is_container}
use Rattle.image.specs.Tags.{container_tag}
use Rattle.records.specs.declared.Sums.{Sums}
use Rattle.records.specs.Fields.{Kind, Container, Choice, Command, Divert, Glue, Operator, Tag, BoolValue, IntValue, FloatValue, StringValue, ListValue, TargetValue, PointerValue, Assignment, Reference, Void, Unknown, kind_table, kind_in, kinds, kind_of, fields, target_among}
use Rattle.records.specs.Records.{field_word, target_in, target_of, field_rule, first_field, fields_rule, parent_rule, root_right, used_up, payload_rule, list_item_rule, list_origin_rule, list_word}
use Rattle.records.specs.Shown.{sums_before, tag_in, Shows, ShowsParent, container_among, container_rule, choice_rule, divert_rule, text_rule, target_rule, assignment_rule, reference_rule, list_rule, fields_by, parent_by, root_by, sums_after, used_up_by}

-- ---- kinds and targets

-- every tag of the rows is below n
unfoldable tags_below : ℕ → List (ℕ × Kind) → Bool
tags_below n [] = true
tags_below n (row ∷ rows) = ltb row.0 n && tags_below n rows

past-rows : (n t : ℕ) (rows : List (ℕ × Kind)) → tags_below n rows ≡ true → n ≤ t → kind_in rows t ≡ Unknown
unfolding tags_below kind_in
past-rows n t [] e h = refl
past-rows n t (row ∷ rows) e h =
    let both = both_true (ltb row.0 n) (tags_below n rows) e in
    rw (ne_eqb t row.0 (λ q. omega (arith, ltb-true row.0 n both.0))) (past-rows n t rows both.1 h)

-- a number past the tags
pub past-kinds : (t : ℕ) → 19 ≤ t → kind_of t ≡ Unknown
past-kinds t h = past-rows 19 t kind_table (unfold tags_below kinds in refl) h

-- f2 of tags 2, 4 and 13
pub target-second : (r : NodeRecord) (t : ℕ) → (t ≡ 2) ⊎ ((t ≡ 4) ⊎ (t ≡ 13)) → r.f2 ≡ target_in r (kind_of t)
unfolding target_in field_word target_among fields kinds
target-second r t (inl e) = ap (λ (x : ℕ). target_in r (kind_of x)) (sym e)
target-second r t (inr (inl e)) = ap (λ (x : ℕ). target_in r (kind_of x)) (sym e)
target-second r t (inr (inr e)) = ap (λ (x : ℕ). target_in r (kind_of x)) (sym e)

-- f4 of 17
pub target_fourth : (r : NodeRecord) (t : ℕ) → t ≡ 17 → r.f4 ≡ target_in r (kind_of t)
unfolding target_in field_word target_among fields kinds
target_fourth r t e = ap (λ (x : ℕ). target_in r (kind_of x)) (sym e)

-- of each tag: it is one of the four, or has no target
four_or_none : NodeRecord → ℕ → Bool
four_or_none r t = eqb t 2 || (eqb t 4 || (eqb t 13 || (eqb t 17 || eqb (target_in r (kind_of t)) NONE)))

four_or_none_lem : (r : NodeRecord) → first_of 19 (λ t. unless (four_or_none r t) 1) ≡ 0
unfolding first_of ◌▸◌ unless target_in field_word target_among fields kinds four_or_none
four_or_none_lem r = refl

pub target_none : (r : NodeRecord) (t : ℕ) → ((t ≡ 2) ⊎ ((t ≡ 4) ⊎ (t ≡ 13)) → ⊥) → (t ≡ 17 → ⊥) → NONE ≡ target_in r (kind_of t)
target_none r t h k = side (dec_lt t 19)
  where
    below : four_or_none r t ≡ true → NONE ≡ target_in r (kind_of t)
    below p = unfold four_or_none in
        let q : eqb (target_in r (kind_of t)) NONE ≡ true =
        rw (ne_eqb t 2 (λ e. h (inl e)), ne_eqb t 4 (λ e. h (inr (inl e))), ne_eqb t 13 (λ e. h (inr (inr e))), ne_eqb t 17 k) at p in
        sym (eqb-true (target_in r (kind_of t)) NONE q)

    side : Dec (t < 19) → NONE ≡ target_in r (kind_of t)
    side (yes l) = below (passed (four_or_none r t) 0 (first_all 19 (λ x. unless (four_or_none r x) 1) (four_or_none_lem r) t l))
    side (no l) = unfold target_in field_word target_among fields in ap (target_in r) (sym (past-kinds t (omega arith)))

-- ---- the tag of a node that is named

-- whether it is a container
pub tag_told : (s : Sections) (n : ℕ) → (inside s n && eqb (tag_in s n) 1) ≡ (inside s n && is_container s n)
unfolding tag_in
tag_told s n = go (inside s n)
  where
    go : (b : Bool) → (b && eqb (cond b (tag_of s n) 0) 1) ≡ (b && is_container s n)
    go true = refl
    go false = refl

-- ---- counts, whatever they say of index and strings, which no rule of a record asks for

pub counts-kept : (s : Sections) (c : EntryCounts) (index strings : ℕ) → c ≡ counts_with s index strings → c ≡ counts_with s c.index c.strings
counts-kept s c index strings e = e ∙ (λ j. counts_with s (sym e j).index (sym e j).strings)

-- ---- the rules by kind, over the node's own words

module _ (s : Sections) (i : ℕ) where
  container_own : (index strings : ℕ) → container_rule (node_in s i) (counts_with s index strings) (sums_before s i) s.strings ≡ first_field s i (fields Container)
  unfolding container_rule first_field field_rule fields
  container_own index strings = simp (skip, last)

  choice_own : choice_rule (node_in s i) (node_count s) (tag_in s (f s i 2)) s.strings ≡ first_field s i (fields Choice)
  unfolding choice_rule first_field field_rule fields
  choice_own = simp (tag_told, skip, last)

  divert_own : divert_rule (node_in s i) (node_count s) s.strings ≡ first_field s i (fields Divert)
  unfolding divert_rule first_field field_rule fields
  divert_own = simp (skip, last)

  target_own : target_rule (node_in s i) (node_count s) s.strings ≡ first_field s i (fields TargetValue)
  unfolding target_rule first_field field_rule fields
  target_own = simp last

  assignment_own : assignment_rule (node_in s i) s.strings ≡ first_field s i (fields Assignment)
  unfolding assignment_rule first_field field_rule fields
  assignment_own = simp last

  reference_own : reference_rule (node_in s i) (node_count s) (tag_in s (f s i 4)) s.strings ≡ first_field s i (fields Reference)
  unfolding reference_rule first_field field_rule fields
  reference_own = simp (tag_told, last)

  list_own : list_rule (node_in s i) (sums_before s i) s.payload s.strings ≡ first_field s i (fields ListValue)
  unfolding list_rule first_field field_rule fields payload_rule list_item_rule list_origin_rule list_word
  list_own = sym (last _)

  bool_own : unless (leb (f s i 0) 1) 12 ≡ first_field s i (fields BoolValue)
  unfolding first_field field_rule fields
  bool_own = sym (last _)

  -- a text alone
  abbrev TextOnly : ℕ → Type 0
  TextOnly t = text_rule t (f s i 0) (f s i 1) s.strings ≡ first_field s i (fields (kind_of t))

  command_own : TextOnly 3
  unfolding text_rule first_field field_rule fields kinds
  command_own = sym (last _)

  operator_own : TextOnly 6
  unfolding text_rule first_field field_rule fields kinds
  operator_own = sym (last _)

  tag_own : TextOnly 7
  unfolding text_rule first_field field_rule fields kinds
  tag_own = refl

  string_own : TextOnly 11
  unfolding text_rule first_field field_rule fields kinds
  string_own = refl

  pointer_own : TextOnly 14
  unfolding text_rule first_field field_rule fields kinds
  pointer_own = simp skip

  -- ---- over a record and numbers that are the node's

  -- the rules of each kind, of the node's own words
  own : (index strings : ℕ) (k : Kind)
      → fields_by k (node_in s i) (counts_with s index strings) (sums_before s i) (tag_in s (target_of s i k)) s.payload s.strings ≡ first_field s i (fields k)
  own index strings Container = unfold fields_by in container_own index strings
  own index strings Choice = unfold fields_by target_in field_word target_among fields in choice_own
  own index strings Command = unfold fields_by kinds in command_own
  own index strings Divert = unfold fields_by in divert_own
  own index strings Glue = unfold fields_by first_field fields in refl
  own index strings Operator = unfold fields_by kinds in operator_own
  own index strings Tag = unfold fields_by kinds in tag_own
  own index strings BoolValue = unfold fields_by in bool_own
  own index strings IntValue = unfold fields_by first_field field_rule fields ◌▸◌ in refl
  own index strings FloatValue = unfold fields_by first_field field_rule fields ◌▸◌ in refl
  own index strings StringValue = unfold fields_by kinds in string_own
  own index strings ListValue = unfold fields_by in list_own
  own index strings TargetValue = unfold fields_by in target_own
  own index strings PointerValue = unfold fields_by kinds in pointer_own
  own index strings Assignment = unfold fields_by in assignment_own
  own index strings Reference = unfold fields_by target_in field_word target_among fields in reference_own
  own index strings Void = unfold fields_by first_field fields in refl
  own index strings Unknown = unfold fields_by first_field field_rule fields ◌▸◌ in refl

  -- what is shown of a node decides its field rules
  pub shown-fields : (r : NodeRecord) (c : EntryCounts) (u : Sums) (tag : ℕ) (ps ts : List ℕ) → Shows s i r c u tag ps ts
      → fields_by (kind_of r.tag) r c u tag ps ts ≡ fields_rule s i
  shown-fields r c u tag ps ts h =
      (λ j. fields_by (kind_of (h.node j).tag) (h.node j) (h.counts j) (h.sums j) (h.target j) (h.payload j) (h.strings j))
      ∙ own c.index c.strings (kind_of (tag_of s i))

-- ---- the rules by the tag that the code finds

module _ (r : NodeRecord) (c : EntryCounts) (u : Sums) (tag : ℕ) (ps ts : List ℕ) where
  abbrev told : ℕ
  told = fields_by (kind_of r.tag) r c u tag ps ts

  by_tag : (t : ℕ) → r.tag ≡ t → fields_by (kind_of t) r c u tag ps ts ≡ told
  by_tag t e = ap (λ (x : ℕ). fields_by (kind_of x) r c u tag ps ts) (sym e)

  pub at_container : r.tag ≡ 1 → container_rule r c u ts ≡ told
  unfolding fields_by kinds
  at_container e = by_tag 1 e

  pub at_choice : r.tag ≡ 2 → choice_rule r c.nodes tag ts ≡ told
  unfolding fields_by kinds
  at_choice e = by_tag 2 e

  pub at_divert : r.tag ≡ 4 → divert_rule r c.nodes ts ≡ told
  unfolding fields_by kinds
  at_divert e = by_tag 4 e

  pub at_target : r.tag ≡ 13 → target_rule r c.nodes ts ≡ told
  unfolding fields_by kinds
  at_target e = by_tag 13 e

  pub at_assignment : r.tag ≡ 16 → assignment_rule r ts ≡ told
  unfolding fields_by kinds
  at_assignment e = by_tag 16 e

  pub at_reference : r.tag ≡ 17 → reference_rule r c.nodes tag ts ≡ told
  unfolding fields_by kinds
  at_reference e = by_tag 17 e

  pub at_list_lem : r.tag ≡ 12 → list_rule r u ps ts ≡ told
  unfolding fields_by kinds
  at_list_lem e = by_tag 12 e

  pub at_bool : r.tag ≡ 8 → unless (leb r.f0 1) 12 ≡ told
  unfolding fields_by kinds
  at_bool e = by_tag 8 e

  text_at_lem : (t : ℕ) → text_rule t r.f0 r.f1 ts ≡ fields_by (kind_of t) r c u tag ps ts → r.tag ≡ t → text_rule r.tag r.f0 r.f1 ts ≡ told
  text_at_lem t q e = ap (λ (x : ℕ). text_rule x r.f0 r.f1 ts) e ∙ q ∙ by_tag t e

  pub at_text : (r.tag ≡ 3) ⊎ ((r.tag ≡ 11) ⊎ (r.tag ≡ 14)) → text_rule r.tag r.f0 r.f1 ts ≡ told
  unfolding fields_by kinds
  at_text (inl e) = text_at_lem 3 refl e
  at_text (inr (inl e)) = text_at_lem 11 refl e
  at_text (inr (inr e)) = text_at_lem 14 refl e

  pub at_text-range : 6 ≤ r.tag → r.tag ≤ 7 → text_rule r.tag r.f0 r.f1 ts ≡ told
  unfolding fields_by kinds
  at_text-range l m = ⊎_elim (λ e. text_at_lem 6 refl (sym e)) (λ k. text_at_lem 7 refl (omega arith)) (eq-or-lt_of_le l)

  pub at_empty : (r.tag ≡ 5) ⊎ (r.tag ≡ 18) → 0 ≡ told
  unfolding fields_by kinds
  at_empty (inl e) = by_tag 5 e
  at_empty (inr e) = by_tag 18 e

  pub at_number : 9 ≤ r.tag → r.tag ≤ 10 → 0 ≡ told
  unfolding fields_by kinds
  at_number l m = ⊎_elim (λ e. by_tag 9 (sym e)) (λ k. by_tag 10 (omega arith)) (eq-or-lt_of_le l)

  pub at_unknown : (r.tag ≡ 0) ⊎ ((r.tag ≡ 15) ⊎ (19 ≤ r.tag)) → 12 ≡ told
  unfolding fields_by kinds
  at_unknown (inl e) = by_tag 0 e
  at_unknown (inr (inl e)) = by_tag 15 e
  at_unknown (inr (inr l)) = ap (λ (k : Kind). fields_by k r c u tag ps ts) (sym (past-kinds r.tag l))

-- ---- tags in the decision's ranges

-- the tag is none of the single ones
abbrev pub Rest : ℕ → Type 0
Rest t =
    ((((((((((Unit {0} × (t ≡ 1 → ⊥)) × (t ≡ 2 → ⊥)) × (t ≡ 4 → ⊥)) × ((t ≡ 5) ⊎ (t ≡ 18) → ⊥)) × ((t ≡ 3) ⊎ ((t ≡ 11) ⊎ (t ≡ 14)) → ⊥))
    × (t ≡ 8 → ⊥)) × (t ≡ 12 → ⊥)) × (t ≡ 13 → ⊥)) × (t ≡ 16 → ⊥)) × (t ≡ 17 → ⊥))

pub from_six : (t : ℕ) → Rest t → 1 ≤ t → 6 ≤ t
from_six t r h =
    let three : 3 ≤ t = up 2 t (up 1 t h r.0.0.0.0.0.0.0.0.0.1) r.0.0.0.0.0.0.0.0.1 in
    let five : 5 ≤ t = up 4 t (up 3 t three (λ e. r.0.0.0.0.0.1 (inl e))) r.0.0.0.0.0.0.0.1 in
    up 5 t five (λ e. r.0.0.0.0.0.0.1 (inl e))

pub from_nine : (t : ℕ) → Rest t → 8 ≤ t → 9 ≤ t
from_nine t r h = up 8 t h r.0.0.0.0.1

pub no_kind : (t : ℕ) → Rest t → 11 ≤ t → (t ≡ 0) ⊎ ((t ≡ 15) ⊎ (19 ≤ t))
no_kind t r h = ⊎_elim (λ e. inr (inl (sym e))) (λ l. inr (inr (past l))) (eq-or-lt_of_le fifteen)
  where
    fifteen : 15 ≤ t
    fifteen =
        let thirteen : 13 ≤ t = up 12 t (up 11 t h (λ e. r.0.0.0.0.0.1 (inr (inl e)))) r.0.0.0.1 in
        up 14 t (up 13 t thirteen r.0.0.1) (λ e. r.0.0.0.0.0.1 (inr (inr e)))

    past : 16 ≤ t → 19 ≤ t
    past l = up 18 t (up 17 t (up 16 t l r.0.1) r.1) (λ e. r.0.0.0.0.0.0.1 (inr e))

-- ---- the parent, the root, what is left over: what is shown decides them

pub shown-parent : (s : Sections) (i : ℕ) (r : NodeRecord) (nodes tag : ℕ) → ShowsParent s i r nodes tag → parent_by i r nodes tag ≡ parent_rule s i
unfolding parent_by parent_rule
shown-parent s i r nodes tag h =
    (λ j. parent_by i (h.node j) (h.count j) (h.parent j)) ∙ simp tag_told

pub shown-root : (s : Sections) (r : NodeRecord) → r ≡ node_in s 0 → root_by r ≡ root_right s
unfolding root_by root_right
shown-root s r h = ap root_by h

pub shown-used : (s : Sections) (u : Sums) (c : EntryCounts) (index strings : ℕ) → u ≡ sums_before s (node_count s) → c ≡ counts_with s index strings
    → used_up_by u c ≡ used_up s
unfolding used_up_by used_up
shown-used s u c index strings p q = λ j. used_up_by (p j) (q j)

-- ---- the same by the tests that the code makes

module _ (i : ℕ) (r : NodeRecord) (nodes tag : ℕ) where
  pub parent_of_root : i ≡ 0 → 0 ≡ parent_by i r nodes tag
  unfolding parent_by
  parent_of_root e = rw (eq-eqb i 0 e)

  -- by the flag that the test for a container gave
  module _ (d : i ≡ 0 → ⊥) (b : Bool) (e : b ≡ container_among nodes r.parent tag) where
    pub parent-missing : not b ≡ true → 9 ≡ parent_by i r nodes tag
    unfolding unless parent_by
    parent-missing n = rw (ne_eqb i 0 d, ← e, not-true b n)

    pub parent-self : not b ≡ false → r.parent ≡ i → 9 ≡ parent_by i r nodes tag
    unfolding unless parent_by
    parent-self n q = rw (ne_eqb i 0 d, ← e, not-false b n, eq-eqb r.parent i q)

    pub parent-right : not b ≡ false → (r.parent ≡ i → ⊥) → 0 ≡ parent_by i r nodes tag
    unfolding unless parent_by
    parent-right n q = rw (ne_eqb i 0 d, ← e, not-false b n, ne_eqb r.parent i q)

module _ (r : NodeRecord) where
  pub root-parent : (r.parent ≡ NONE → ⊥) → false ≡ root_by r
  unfolding root_by
  root-parent d = rw (ne_eqb r.parent NONE d)

  pub root-place : r.parent ≡ NONE → (r.place ≡ NONE → ⊥) → false ≡ root_by r
  unfolding root_by
  root-place e d = rw (eq-eqb r.parent NONE e, ne_eqb r.place NONE d)

  pub root_tag : r.parent ≡ NONE → r.place ≡ NONE → eqb r.tag container_tag ≡ root_by r
  unfolding root_by
  root_tag e d = rw (eq-eqb r.parent NONE e, eq-eqb r.place NONE d)

module _ (u : Sums) (c : EntryCounts) where
  pub used-children : (u.children ≡ c.children → ⊥) → false ≡ used_up_by u c
  unfolding used_up_by
  used-children d = rw (ne_eqb u.children c.children d)

  pub used-named : u.children ≡ c.children → (u.named ≡ c.named → ⊥) → false ≡ used_up_by u c
  unfolding used_up_by
  used-named e d = rw (eq-eqb u.children c.children e, ne_eqb u.named c.named d)

  pub used-payload : u.children ≡ c.children → u.named ≡ c.named → eqb u.payload c.payload ≡ used_up_by u c
  unfolding used_up_by
  used-payload e d = rw (eq-eqb u.children c.children e, eq-eqb u.named c.named d)

-- the sums after a node, by its tag
module _ (u : Sums) (r : NodeRecord) where
  pub after-container : r.tag ≡ container_tag
      → record { children = r.f3 + r.f4; named = r.f5 + r.f6; payload = u.payload; containers = u.containers + 1 } ≡ sums_after u r
  unfolding sums_after
  after-container e = rw (eq-eqb r.tag container_tag e)

  pub after_list : r.tag ≡ 12 → record { children = u.children; named = u.named; payload = r.f0 + r.f1; containers = u.containers } ≡ sums_after u r
  unfolding sums_after
  after_list e = rw e

  pub after-other : (r.tag ≡ container_tag → ⊥) → (r.tag ≡ 12 → ⊥) → u ≡ sums_after u r
  unfolding sums_after
  after-other d e = rw (ne_eqb r.tag container_tag d, ne_eqb r.tag 12 e)
