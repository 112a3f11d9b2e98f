-- Kinds with a target: where it stands, what its rule lets stand there, and a draft in which one target is set.
use Prim.Native.Nat.{ℕ, ◌+◌, ◌*◌, ◌<◌}
use mathlib.Core.Path.{◌≡◌, refl, sym, ap, ◌∙◌, subst}
use mathlib.Core.Bool.{Bool, true, false, ◌&&◌, false≢true}
use mathlib.Core.List.{List}
use native.Mathlib.Omega.{arith}
use native.Mathlib.Decide.{ℕ_discrete, dec_lt}
use lib.Dec.{ltb}
use lib.ListN.{length, set, length-set}
use lib.Seq.{get_or-set_same, get_or-set_other}
use borrow.Author.Tests.{ltb-true}
use Rattle.laws.proofs.First.{both, then, passed, pass, zero_as, first_all, first_of_lem}
use Rattle.laws.proofs.Flags.{both_true}
use Rattle.words.specs.Words.{is_none}
use Rattle.image.specs.Sections.{Sections, node_words, node_count, node_word, parent_of, tag_of, f, inside, is_container}
use Rattle.image.proofs.Widths.{words-some, later-node, node-within}
use Rattle.records.specs.Fields.{Kind, Container, Choice, Command, Divert, Glue, Operator, Tag, BoolValue, IntValue, FloatValue, StringValue, ListValue, TargetValue, PointerValue, Assignment, Reference, Void, Unknown, kind_of, kinds, fields, target_place, target_among, no_place}
use Rattle.records.specs.Records.{field_word, target_in, target_of, field_rule, first_field, fields_rule}
use Rattle.draft.specs.Source.{with_nodes}
use Rattle.draft.specs.Draft.{whole_entries, draft_node_rule, tables_rule}
use Rattle.draft.proofs.Rules.{tables}
use Rattle.draft.proofs.SameTree.{SameTree, same-fields, same_tables, same-inside}
use Rattle.target_counts.specs.Summary.{target_at}
use Rattle.target_changes.specs.Change.{allowed, allowed_among}

-- ---- kinds with a target

pub data HasTarget : Kind → Type 0 where
  choice : HasTarget Choice
  divert : HasTarget Divert
  value : HasTarget TargetValue
  reference : HasTarget Reference

pub has_target : (s : Sections) (K : Kind) (t : ℕ) → allowed s K t ≡ true → HasTarget K
unfolding fields allowed_among
has_target s Choice t e = choice
has_target s Divert t e = divert
has_target s TargetValue t e = value
has_target s Reference t e = reference
has_target s Container t e = absurd (false≢true e)
has_target s Command t e = absurd (false≢true e)
has_target s Glue t e = absurd (false≢true e)
has_target s Operator t e = absurd (false≢true e)
has_target s Tag t e = absurd (false≢true e)
has_target s BoolValue t e = absurd (false≢true e)
has_target s IntValue t e = absurd (false≢true e)
has_target s FloatValue t e = absurd (false≢true e)
has_target s StringValue t e = absurd (false≢true e)
has_target s ListValue t e = absurd (false≢true e)
has_target s PointerValue t e = absurd (false≢true e)
has_target s Assignment t e = absurd (false≢true e)
has_target s Void t e = absurd (false≢true e)
has_target s Unknown t e = absurd (false≢true e)

pub place_few : (K : Kind) → HasTarget K → target_place K < 7
unfolding fields target_among
place_few Choice choice = omega arith
place_few Divert divert = omega arith
place_few TargetValue value = omega arith
place_few Reference reference = omega arith
place_few Container x' = elim x' [ ]
place_few Command x'' = elim x'' [ ]
place_few Glue x3 = elim x3 [ ]
place_few Operator x4 = elim x4 [ ]
place_few Tag x5 = elim x5 [ ]
place_few BoolValue x6 = elim x6 [ ]
place_few IntValue x7 = elim x7 [ ]
place_few FloatValue x8 = elim x8 [ ]
place_few StringValue x9 = elim x9 [ ]
place_few ListValue x10 = elim x10 [ ]
place_few PointerValue x11 = elim x11 [ ]
place_few Assignment x12 = elim x12 [ ]
place_few Void x13 = elim x13 [ ]
place_few Unknown x14 = elim x14 [ ]

pub target_at_lem : (s : Sections) (i : ℕ) (K : Kind) → HasTarget K → target_of s i K ≡ f s i (target_place K)
unfolding target_in field_word fields target_among
target_at_lem s i Choice choice = refl
target_at_lem s i Divert divert = refl
target_at_lem s i TargetValue value = refl
target_at_lem s i Reference reference = refl
target_at_lem s i Container x' = elim x' [ ]
target_at_lem s i Command x'' = elim x'' [ ]
target_at_lem s i Glue x3 = elim x3 [ ]
target_at_lem s i Operator x4 = elim x4 [ ]
target_at_lem s i Tag x5 = elim x5 [ ]
target_at_lem s i BoolValue x6 = elim x6 [ ]
target_at_lem s i IntValue x7 = elim x7 [ ]
target_at_lem s i FloatValue x8 = elim x8 [ ]
target_at_lem s i StringValue x9 = elim x9 [ ]
target_at_lem s i ListValue x10 = elim x10 [ ]
target_at_lem s i PointerValue x11 = elim x11 [ ]
target_at_lem s i Assignment x12 = elim x12 [ ]
target_at_lem s i Void x13 = elim x13 [ ]
target_at_lem s i Unknown x14 = elim x14 [ ]

-- no container, and no list
pub not-container : (t : ℕ) → HasTarget (kind_of t) → t ≡ 1 → ⊥
unfolding kinds
not-container t a e = none_such (subst (λ (x : ℕ). HasTarget (kind_of x)) e a)
  where
    none_such : HasTarget Container → ⊥
    none_such a = elim a [ ]

pub not-list : (t : ℕ) → HasTarget (kind_of t) → t ≡ 12 → ⊥
unfolding kinds
not-list t a e = none_such (subst (λ (x : ℕ). HasTarget (kind_of x)) e a)
  where
    none_such : HasTarget ListValue → ⊥
    none_such a = elim a [ ]

-- ---- what the rule lets stand there

-- it is absent or a node
pub allowed-inside : (s : Sections) (K : Kind) (t : ℕ) → allowed s K t ≡ true → is_none t ≡ false → t < node_count s
unfolding fields allowed_among
allowed-inside s K t h n = by K (has_target s K t h) h
  where
    in_table : (b : Bool) → (ltb t (node_count s) && b) ≡ true → t < node_count s
    in_table b e = ltb-true _ _ (both_true (ltb t (node_count s)) b e).0

    by : (K : Kind) → HasTarget K → allowed s K t ≡ true → t < node_count s
    by Container x'' e = elim x'' [ ]
    by Command x3 e = elim x3 [ ]
    by Glue x4 e = elim x4 [ ]
    by Operator x5 e = elim x5 [ ]
    by Tag x6 e = elim x6 [ ]
    by BoolValue x7 e = elim x7 [ ]
    by IntValue x8 e = elim x8 [ ]
    by FloatValue x9 e = elim x9 [ ]
    by StringValue x10 e = elim x10 [ ]
    by ListValue x11 e = elim x11 [ ]
    by PointerValue x12 e = elim x12 [ ]
    by Assignment x13 e = elim x13 [ ]
    by Void x14 e = elim x14 [ ]
    by Unknown x15 e = elim x15 [ ]
    by Choice choice e = in_table _ (both_true (inside s t) _ e).0
    by Divert divert e = in_table _ (rw n at e)
    by TargetValue value e = in_table _ e
    by Reference reference e =
        let q : ((ltb t (node_count s) && true) && is_container s t) ≡ true = rw n at e in
        in_table _ (both_true (ltb t (node_count s) && true) _ q).0

-- the target of a node whose fields are right
pub old_allowed : (s : Sections) (i : ℕ) → fields_rule s i ≡ 0 → HasTarget (kind_of (tag_of s i)) → allowed s (kind_of (tag_of s i)) (target_at s i) ≡ true
unfolding first_field field_rule fields allowed_among target_in field_word target_among
old_allowed s i h a = by (kind_of (tag_of s i)) a h
  where
    by : (K : Kind) → HasTarget K → first_field s i (fields K) ≡ 0 → allowed s K (target_of s i K) ≡ true
    by Container x'' q = elim x'' [ ]
    by Command x3 q = elim x3 [ ]
    by Glue x4 q = elim x4 [ ]
    by Operator x5 q = elim x5 [ ]
    by Tag x6 q = elim x6 [ ]
    by BoolValue x7 q = elim x7 [ ]
    by IntValue x8 q = elim x8 [ ]
    by FloatValue x9 q = elim x9 [ ]
    by StringValue x10 q = elim x10 [ ]
    by ListValue x11 q = elim x11 [ ]
    by PointerValue x12 q = elim x12 [ ]
    by Assignment x13 q = elim x13 [ ]
    by Void x14 q = elim x14 [ ]
    by Unknown x15 q = elim x15 [ ]
    by Choice choice q = passed _ 8 (both _ _ (both _ _ q).1).0
    by Divert divert q = passed _ 8 (both _ _ (both _ _ q).1).0
    by TargetValue value q = passed _ 8 (both _ _ (both _ _ q).1).0
    by Reference reference q = passed _ 8 (both _ _ (both _ _ (both _ _ q).1).1).0

-- a kind of which a field names a node
pub has_place : (K : Kind) → (target_place K ≡ no_place → ⊥) → HasTarget K
unfolding fields target_among
has_place Choice d = choice
has_place Divert d = divert
has_place TargetValue d = value
has_place Reference d = reference
has_place Container d = absurd (d refl)
has_place Command d = absurd (d refl)
has_place Glue d = absurd (d refl)
has_place Operator d = absurd (d refl)
has_place Tag d = absurd (d refl)
has_place BoolValue d = absurd (d refl)
has_place IntValue d = absurd (d refl)
has_place FloatValue d = absurd (d refl)
has_place StringValue d = absurd (d refl)
has_place ListValue d = absurd (d refl)
has_place PointerValue d = absurd (d refl)
has_place Assignment d = absurd (d refl)
has_place Void d = absurd (d refl)
has_place Unknown d = absurd (d refl)

-- and one of which none does
pub no_place_lem : (s : Sections) (K : Kind) (t : ℕ) → target_place K ≡ no_place → allowed s K t ≡ false
no_place_lem s K t e = by (allowed s K t) refl
  where
    by : (b : Bool) → allowed s K t ≡ b → b ≡ false
    by true h = let l = place_few K (has_target s K t h) in absurd (omega arith)
    by false h = refl

-- ---- the draft with one word put

-- words of two places are apart
apart : (version i j u w : ℕ) → u < 10 → w < 10 → (j ≡ i → w ≡ u → ⊥) → j * node_words version + w ≡ i * node_words version + u → ⊥
apart version i j u w h k d e = by (ℕ_discrete j i) (dec_lt j i)
  where
    by : Dec (j ≡ i) → Dec (j < i) → ⊥
    by (yes q) o = d q (let z : j * node_words version ≡ i * node_words version = rw q in omega arith)
    by (no q) (yes l) = let z = later-node j i version l in let y = words-some version in omega arith
    by (no q) (no n) = let l : i < j = omega arith in let z = later-node i j version l in let y = words-some version in omega arith

pub record Put (s : Sections) (ns : List ℕ) (i k t : ℕ) : Type 0 where
  pub len : length ns ≡ length s.nodes
  pub word : (j w : ℕ) → w < 10 → (j ≡ i → w ≡ 3 + k → ⊥) → node_word (with_nodes s ns) j w ≡ node_word s j w
  pub new : node_word (with_nodes s ns) i (3 + k) ≡ t

pub put_word : (s : Sections) (i k t : ℕ) → k < 7 → i < node_count s → Put s (set s.nodes (i * node_words s.version + (3 + k)) t) i k t
unfolding node_word
put_word s i k t few h =
    record {
      len = length-set s.nodes _ t;
      word = λ j w l d. get_or-set_other s.nodes _ _ t 0 (apart s.version i j (3 + k) w (omega arith) l d);
      new = get_or-set_same s.nodes _ t 0 (let n = node-within s.nodes s.version i h in omega (arith, n.words, n.least));
    }

-- sections whose node words but for one target are those of s
module _ (s : Sections) (ns : List ℕ) (i t : ℕ) (a : HasTarget (kind_of (tag_of s i))) (p : Put s ns i (target_place (kind_of (tag_of s i))) t) where
  tag_same : (j : ℕ) → tag_of (with_nodes s ns) j ≡ tag_of s j
  tag_same j = p.word j 2 (omega arith) (λ e q. omega arith)

  other : (j m : ℕ) → m < 7 → (j ≡ i → ⊥) → f (with_nodes s ns) j m ≡ f s j m
  other j m h d = p.word j (3 + m) (omega arith) (λ e q. d e)

  pub same-tree : SameTree s ns
  same-tree =
      record {
        count = rw p.len;
        tags = tag_same;
        parents = λ j. p.word j 0 (omega arith) (λ e q. omega arith);
        places = λ j. p.word j 1 (omega arith) (λ e q. omega arith);
        boxes = λ j k e h. other j k h (λ q. not-container (tag_of s i) a (sym (ap (tag_of s) q) ∙ e));
        lists = λ j e. other j 1 (omega arith) (λ q. not-list (tag_of s i) a (sym (ap (tag_of s) q) ∙ e));
      }

  -- the fields of the node itself
  own : (K : Kind) → HasTarget K → ((m : ℕ) → m < 7 → (m ≡ target_place K → ⊥) → f (with_nodes s ns) i m ≡ f s i m) → f (with_nodes s ns) i (target_place K) ≡ t
      → allowed s K t ≡ true → first_field s i (fields K) ≡ 0 → first_field (with_nodes s ns) i (fields K) ≡ 0
  unfolding first_field field_rule fields target_among allowed_among
  own Choice choice w n may h =
      let o : f (with_nodes s ns) i 0 ≡ f s i 0 = w 0 (omega arith) (λ e. omega arith) in
      let l : f (with_nodes s ns) i 1 ≡ f s i 1 = w 1 (omega arith) (λ e. omega arith) in
      rw (o, l, n, p.len, tag_same t) (then _ _ (both _ _ h).0 (then _ _ (pass _ 9 may) (both _ _ (both _ _ h).1).1))
  own Divert divert w n may h =
      let o : f (with_nodes s ns) i 0 ≡ f s i 0 = w 0 (omega arith) (λ e. omega arith) in
      let l : f (with_nodes s ns) i 1 ≡ f s i 1 = w 1 (omega arith) (λ e. omega arith) in
      let v : f (with_nodes s ns) i 3 ≡ f s i 3 = w 3 (omega arith) (λ e. omega arith) in
      let m : f (with_nodes s ns) i 4 ≡ f s i 4 = w 4 (omega arith) (λ e. omega arith) in
      let g : f (with_nodes s ns) i 6 ≡ f s i 6 = w 6 (omega arith) (λ e. omega arith) in
      rw (o, l, n, v, m, g, p.len) (then _ _ (both _ _ h).0 (then _ _ (pass _ 9 may) (both _ _ (both _ _ h).1).1))
  own TargetValue value w n may h =
      let o : f (with_nodes s ns) i 0 ≡ f s i 0 = w 0 (omega arith) (λ e. omega arith) in
      let l : f (with_nodes s ns) i 1 ≡ f s i 1 = w 1 (omega arith) (λ e. omega arith) in
      rw (o, l, n, p.len) (then _ _ (both _ _ h).0 (then _ _ (pass _ 9 may) (both _ _ (both _ _ h).1).1))
  own Reference reference w n may h =
      let o : f (with_nodes s ns) i 0 ≡ f s i 0 = w 0 (omega arith) (λ e. omega arith) in
      let l : f (with_nodes s ns) i 1 ≡ f s i 1 = w 1 (omega arith) (λ e. omega arith) in
      let v : f (with_nodes s ns) i 2 ≡ f s i 2 = w 2 (omega arith) (λ e. omega arith) in
      let m : f (with_nodes s ns) i 3 ≡ f s i 3 = w 3 (omega arith) (λ e. omega arith) in
      let q = both _ _ h in
      rw (o, l, n, v, m, p.len, tag_same t) (then _ _ q.0 (then _ _ (both _ _ q.1).0 (then _ _ (pass _ 9 may) (both _ _ (both _ _ q.1).1).1)))
  own Container x5 w n may h = elim x5 [ ]
  own Command x6 w n may h = elim x6 [ ]
  own Glue x7 w n may h = elim x7 [ ]
  own Operator x8 w n may h = elim x8 [ ]
  own Tag x9 w n may h = elim x9 [ ]
  own BoolValue x10 w n may h = elim x10 [ ]
  own IntValue x11 w n may h = elim x11 [ ]
  own FloatValue x12 w n may h = elim x12 [ ]
  own StringValue x13 w n may h = elim x13 [ ]
  own ListValue x14 w n may h = elim x14 [ ]
  own PointerValue x15 w n may h = elim x15 [ ]
  own Assignment x16 w n may h = elim x16 [ ]
  own Void x17 w n may h = elim x17 [ ]
  own Unknown x18 w n may h = elim x18 [ ]

  -- ---- row 19

  module _ (may : allowed s (kind_of (tag_of s i)) t ≡ true) (rule : tables_rule s ≡ 0) where
    fields-pass : (j : ℕ) → j < node_count s → fields_rule (with_nodes s ns) j ≡ 0
    fields-pass j h = by (ℕ_discrete j i) ((tables s rule).fields j h)
      where
        by : Dec (j ≡ i) → fields_rule s j ≡ 0 → fields_rule (with_nodes s ns) j ≡ 0
        by (no d) q = same-fields s ns same-tree j (λ k l. other j k l d) ∙ q
        by (yes e) q =
            rw (e, tag_same i)
            (own (kind_of (tag_of s i)) a (λ m l d. p.word i (3 + m) (omega arith) (λ z y. d (omega arith))) p.new may (rw e at q))

    node-passes : (j : ℕ) → j < node_count s → draft_node_rule s j ≡ 0 → draft_node_rule (with_nodes s ns) j ≡ 0
    unfolding draft_node_rule
    node-passes j h q =
        then _ _ (zero_as 19 _ (fields-pass j h))
        (rw (same-inside s ns same-tree (parent_of (with_nodes s ns) j), same-tree.parents j) (both _ _ q).1)

    whole_same : whole_entries (with_nodes s ns) ≡ whole_entries s
    unfolding whole_entries
    whole_same = rw p.len

    pub tables-kept : tables_rule (with_nodes s ns) ≡ 0
    unfolding tables_rule
    tables-kept =
        let t0 = both _ _ rule in
        let t1 = both _ _ t0.1 in
        rw (whole_same, p.len, same_tables s ns same-tree)
        (then _ _ t0.0 (then _ _ (first_of_lem _ _ (λ j h. node-passes j h (first_all _ _ t1.0 j h))) t1.1))

  -- ---- targets

  pub target_new : target_at (with_nodes s ns) i ≡ t
  target_new = ap (λ (x : ℕ). target_of (with_nodes s ns) i (kind_of x)) (tag_same i) ∙ target_at_lem (with_nodes s ns) i (kind_of (tag_of s i)) a ∙ p.new

  pub target-other : (j : ℕ) → (j ≡ i → ⊥) → target_at (with_nodes s ns) j ≡ target_at s j
  unfolding target_in field_word fields target_among
  target-other j d = ap (λ (x : ℕ). target_of (with_nodes s ns) j (kind_of x)) (tag_same j) ∙ by (kind_of (tag_of s j))
    where
      by : (K : Kind) → target_of (with_nodes s ns) j K ≡ target_of s j K
      by Choice = other j 2 (omega arith) d
      by Divert = other j 2 (omega arith) d
      by TargetValue = other j 2 (omega arith) d
      by Reference = other j 4 (omega arith) d
      by Container = refl
      by Command = refl
      by Glue = refl
      by Operator = refl
      by Tag = refl
      by BoolValue = refl
      by IntValue = refl
      by FloatValue = refl
      by StringValue = refl
      by ListValue = refl
      by PointerValue = refl
      by Assignment = refl
      by Void = refl
      by Unknown = refl

  -- ---- what may stand there, in the draft that has the target

  allowed_same : (K : Kind) → HasTarget K → (x : ℕ) → allowed (with_nodes s ns) K x ≡ allowed s K x
  unfolding fields allowed_among
  allowed_same Choice choice x = rw (p.len, tag_same x)
  allowed_same Divert divert x = rw p.len
  allowed_same TargetValue value x = rw p.len
  allowed_same Reference reference x = rw (p.len, tag_same x)
  allowed_same Container x3 x = elim x3 [ ]
  allowed_same Command x4 x = elim x4 [ ]
  allowed_same Glue x5 x = elim x5 [ ]
  allowed_same Operator x6 x = elim x6 [ ]
  allowed_same Tag x7 x = elim x7 [ ]
  allowed_same BoolValue x8 x = elim x8 [ ]
  allowed_same IntValue x9 x = elim x9 [ ]
  allowed_same FloatValue x10 x = elim x10 [ ]
  allowed_same StringValue x11 x = elim x11 [ ]
  allowed_same ListValue x12 x = elim x12 [ ]
  allowed_same PointerValue x13 x = elim x13 [ ]
  allowed_same Assignment x14 x = elim x14 [ ]
  allowed_same Void x15 x = elim x15 [ ]
  allowed_same Unknown x16 x = elim x16 [ ]

  pub allowed_of : i < node_count s → tables_rule (with_nodes s ns) ≡ 0 → allowed s (kind_of (tag_of s i)) t ≡ true
  allowed_of h e =
      let l : i < node_count (with_nodes s ns) = rw p.len h in
      let z = old_allowed (with_nodes s ns) i ((tables (with_nodes s ns) e).fields i l) (rw (tag_same i) a) in
      sym (allowed_same (kind_of (tag_of s i)) a t) ∙ sym (λ j. allowed (with_nodes s ns) (kind_of (tag_same i j)) (target_new j)) ∙ z
