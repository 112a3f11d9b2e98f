-- Row 19 with a list of paths: the nodes that follow a path, the tests of their other fields, and what a draft that passes has.
use Prim.Native.Nat.{ℕ, suc}
use mathlib.Core.Path.{◌≡◌, refl, sym, ap, ◌∙◌}
use mathlib.Core.Logic.{◌⊎◌, inl, inr}
use mathlib.Core.List.{List, []}
use mathlib.Core.Bool.{Bool, true, false, ◌&&◌, ◌||◌, not, true≢false}
use native.Mathlib.Omega.{arith}
use lib.Dec.{leb, eqb}
use borrow.Author.Tests.{eqb-true, ne_eqb, not-true, not-false}
use Rattle.laws.specs.Refusal.{unless, passes, ◌▸◌}
use Rattle.laws.specs.Counted.{last_of}
use Rattle.laws.proofs.Flags.{both_true}
use Rattle.image.specs.declared.NodeRecord.{NodeRecord}
use Rattle.image.specs.Entries.{node_in}
use Rattle.image.specs.Sections.{Sections, tag_of, f, is_container, absent, good_in, optional_in}
use Rattle.records.specs.declared.Sums.{Sums}
use Rattle.records.specs.Fields.{kinds, fields}
use Rattle.records.specs.Flags.{external}
use Rattle.records.specs.Records.{fields_at, field_rule, first_field, fields_rule}
use Rattle.records.specs.Shown.{sums_before, sums_after}
use Rattle.records.proofs.ByKind.{after-other}
use Rattle.records.proofs.PassedRules.{sums-other, shown-sums}
use Rattle.tree.specs.Parts.{Fit}
use Rattle.draft.specs.Draft.{draft_node_rule, tables_rule}
use Rattle.draft.specs.PathList.{path_of, listed, may_follow, plain_divert, follows, without_target, path_fields_rule, path_node_rule, path_tables_rule}
use Rattle.draft.specs.PathEntries.{follower_right}
use Rattle.draft.specs.Shown.{TablesPassed}
use Rattle.draft.proofs.Rules.{Entries, TablesBy, tables_by, whole_by, tables_fit}
use Rattle.draft.proofs.Row21.{tables-passed}

-- ---- no entries

pub no_paths_lem : (s : Sections) → path_tables_rule s [] ≡ tables_rule s
unfolding path_tables_rule path_node_rule path_fields_rule path_of last_of tables_rule draft_node_rule
no_paths_lem s = refl

-- ---- the nodes that may follow a path

-- a choice, a divert, a divert-target value, a reference
abbrev pub FollowTag : ℕ → Type 0
FollowTag t = (t ≡ 2) ⊎ ((t ≡ 4) ⊎ ((t ≡ 13) ⊎ (t ≡ 17)))

pub follow_tag : (r : NodeRecord) → may_follow r ≡ true → FollowTag r.tag
unfolding may_follow
follow_tag r h = go _ _ _ _ refl refl refl refl h
  where
    go : (a b c d : Bool) → a ≡ eqb r.tag 2 → b ≡ plain_divert r → c ≡ eqb r.tag 13 → d ≡ eqb r.tag 17 → (a || b || c || d) ≡ true → FollowTag r.tag
    go true b c d p q x y h = inl (eqb-true r.tag 2 (sym p))
    go false true c d p q x y h = inr (inl (eqb-true r.tag 4 (both_true (eqb r.tag 4) _ (both_true (eqb r.tag 4 && not (external r)) _ (sym q)).0).0))
    go false false true d p q x y h = inr (inr (inl (eqb-true r.tag 13 (sym x))))
    go false false false true p q x y h = inr (inr (inr (eqb-true r.tag 17 (sym y))))
    go false false false false p q x y h = absurd (true≢false (sym h))

-- neither a container nor a list
pub no_container_lem : (t : ℕ) → FollowTag t → t ≡ 1 → ⊥
no_container_lem t (inl e) p = omega arith
no_container_lem t (inr (inl e)) p = omega arith
no_container_lem t (inr (inr (inl e))) p = omega arith
no_container_lem t (inr (inr (inr e))) p = omega arith

pub no_list : (t : ℕ) → FollowTag t → t ≡ 12 → ⊥
no_list t (inl e) p = omega arith
no_list t (inr (inl e)) p = omega arith
no_list t (inr (inr (inl e))) p = omega arith
no_list t (inr (inr (inr e))) p = omega arith

module _ (s : Sections) (entries : List ℕ) (i : ℕ) where
  pub followed : follows s entries i ≡ true → may_follow (node_in s i) ≡ true
  followed h = (both_true (listed entries i) (may_follow (node_in s i)) h).1

  pub follows_is : (r : NodeRecord) → r ≡ node_in s i → (b : Bool) → b ≡ (listed entries i && may_follow r) → b ≡ follows s entries i
  follows_is r e b h = h ∙ ap (λ (x : NodeRecord). listed entries i && may_follow x) e

  -- the rules of the fields by whether it follows
  pub path-fields-free : follows s entries i ≡ true → path_fields_rule s entries i ≡ first_field s i (without_target (fields_at s i))
  unfolding path_fields_rule
  path-fields-free h = rw h

  pub path-fields_own : follows s entries i ≡ false → path_fields_rule s entries i ≡ fields_rule s i
  unfolding path_fields_rule
  path-fields_own h = rw h

  pub container-fields : is_container s i ≡ true → path_fields_rule s entries i ≡ fields_rule s i
  container-fields c = by (follows s entries i) refl
    where
      by : (b : Bool) → follows s entries i ≡ b → path_fields_rule s entries i ≡ fields_rule s i
      by true h = absurd (no_container_lem _ (follow_tag (node_in s i) (followed h)) (eqb-true (tag_of s i) 1 c))
      by false h = path-fields_own h

  -- the sums after it are those before the next one
  pub path-sums : (u : Sums) (r : NodeRecord) → u ≡ sums_before s i → r ≡ node_in s i → path_fields_rule s entries i ≡ 0 → sums_after u r ≡ sums_before s (suc i)
  path-sums u r q n p = by (follows s entries i) refl
    where
      tag_is : r.tag ≡ tag_of s i
      tag_is = ap (λ (x : NodeRecord). x.tag) n

      by : (b : Bool) → follows s entries i ≡ b → sums_after u r ≡ sums_before s (suc i)
      by true h =
          let t = follow_tag (node_in s i) (followed h) in
          let d : r.tag ≡ 1 → ⊥ = λ e. no_container_lem _ t (sym tag_is ∙ e) in
          let o : r.tag ≡ 12 → ⊥ = λ e. no_list _ t (sym tag_is ∙ e) in
          sym (after-other u r d o) ∙ sums-other s i u r q n d o
      by false h = shown-sums s i u r q n (sym (path-fields_own h) ∙ p)

-- ---- the fields of a node that follows a path, the target aside, by the tests that the code makes

module _ (r : NodeRecord) (ts : List ℕ) where
  pub choice-right : r.tag ≡ 2 → (b : Bool) → b ≡ optional_in ts r.f0 r.f1 → b ≡ follower_right r ts
  unfolding follower_right
  choice-right e b h = rw e h

  module _ (e : r.tag ≡ 4) (b : Bool) (h : b ≡ optional_in ts r.f0 r.f1) where
    pub divert-wrong : not b ≡ true → false ≡ follower_right r ts
    unfolding follower_right
    divert-wrong q = rw (e, ← h, not-true b q)

    pub divert-right : not b ≡ false → leb r.f6 23 ≡ follower_right r ts
    unfolding follower_right
    divert-right q = rw (e, ← h, not-false b q)

  module _ (e : r.tag ≡ 17) (b : Bool) (h : b ≡ good_in ts r.f0 r.f1) where
    pub reference-wrong : not b ≡ true → false ≡ follower_right r ts
    unfolding follower_right
    reference-wrong q = rw (e, ← h, not-true b q)

    pub reference-right : not b ≡ false → (a : Bool) → a ≡ optional_in ts r.f2 r.f3 → a ≡ follower_right r ts
    unfolding follower_right
    reference-right q a k = rw (e, ← h, not-false b q) k

  pub target_right : (r.tag ≡ 2 → ⊥) → (r.tag ≡ 4 → ⊥) → (r.tag ≡ 17 → ⊥) → (b : Bool) → b ≡ good_in ts r.f0 r.f1 → b ≡ follower_right r ts
  unfolding follower_right
  target_right x y z b h = rw (ne_eqb r.tag 2 x, ne_eqb r.tag 4 y, ne_eqb r.tag 17 z) h

-- ---- these tests are the rules of its fields without the target

-- a text; a text before a word that may be any; two texts; a text, an absent one and flags
text-passes : (a : Bool) → a ≡ passes (unless a 10 ▸ 0)
unfolding unless ◌▸◌
text-passes true = refl
text-passes false = refl

word-passes : (a : Bool) → a ≡ passes (unless a 10 ▸ 0 ▸ 0)
unfolding ◌▸◌
word-passes a = text-passes a

texts-pass : (a b : Bool) → (a && b) ≡ passes (unless a 10 ▸ unless b 10 ▸ 0)
unfolding unless ◌▸◌
texts-pass true true = refl
texts-pass true false = refl
texts-pass false b = refl

flags_pass : (a b c : Bool) → b ≡ true → (a && c) ≡ passes (unless a 10 ▸ unless b 10 ▸ 0 ▸ unless c 12 ▸ 0)
unfolding unless ◌▸◌
flags_pass true true true e = refl
flags_pass true true false e = refl
flags_pass true false c e = absurd (true≢false (sym e))
flags_pass false b c e = refl

-- a divert that may follow a path has no variable
no_variable : (r : NodeRecord) → may_follow r ≡ true → r.tag ≡ 4 → absent r.f3 r.f4 ≡ true
unfolding may_follow
no_variable r h e = go (not (external r)) (absent r.f3 r.f4) (rw e at h)
  where
    go : (a b : Bool) → (a && b || false || false) ≡ true → b ≡ true
    go true true q = refl
    go true false q = absurd (true≢false (sym q))
    go false b q = absurd (true≢false (sym q))

module _ (s : Sections) (i : ℕ) where
  abbrev Right : Type 0
  Right = follower_right (node_in s i) s.strings ≡ passes (first_field s i (without_target (fields_at s i)))

  choice-fields : tag_of s i ≡ 2 → Right
  unfolding follower_right kinds first_field field_rule fields without_target
  choice-fields e = rw e (word-passes (optional_in s.strings (f s i 0) (f s i 1)))

  divert-fields : tag_of s i ≡ 4 → absent (f s i 3) (f s i 4) ≡ true → Right
  unfolding follower_right kinds first_field field_rule fields without_target
  divert-fields e a = rw e (flags_pass (optional_in s.strings (f s i 0) (f s i 1)) (optional_in s.strings (f s i 3) (f s i 4)) (leb (f s i 6) 23) (rw a))

  target-fields : tag_of s i ≡ 13 → Right
  unfolding follower_right kinds first_field field_rule fields without_target
  target-fields e = rw e (text-passes (good_in s.strings (f s i 0) (f s i 1)))

  reference-fields : tag_of s i ≡ 17 → Right
  unfolding follower_right kinds first_field field_rule fields without_target
  reference-fields e = rw e (texts-pass (good_in s.strings (f s i 0) (f s i 1)) (optional_in s.strings (f s i 2) (f s i 3)))

  pub follower-fields : may_follow (node_in s i) ≡ true → follower_right (node_in s i) s.strings ≡ passes (first_field s i (without_target (fields_at s i)))
  follower-fields h = by (follow_tag (node_in s i) h)
    where
      by : FollowTag (tag_of s i) → Right
      by (inl e) = choice-fields e
      by (inr (inl e)) = divert-fields e (no_variable (node_in s i) h e)
      by (inr (inr (inl e))) = target-fields e
      by (inr (inr (inr e))) = reference-fields e

-- ---- what a draft has that passes

-- its tables, but for the targets of nodes that follow a path
abbrev pub PathTables : Sections → List ℕ → Type 0
PathTables s entries = TablesBy s (path_fields_rule s entries)

module _ (s : Sections) (entries : List ℕ) (p : path_tables_rule s entries ≡ 0) where
  pub path-tables : PathTables s entries
  unfolding path_tables_rule path_node_rule
  path-tables = tables_by s (path_fields_rule s entries) p (container-fields s entries)

  pub path-whole : Entries s
  unfolding path_tables_rule path_node_rule
  path-whole = whole_by s (path_fields_rule s entries) p

  pub path_fit : Fit s
  path_fit = tables_fit s path-tables

  pub path-passed : TablesPassed s
  path-passed = tables-passed s path-tables
