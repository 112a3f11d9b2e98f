-- The tests up to 21 in plain words, both ways, and what stands behind them.
use Prim.Native.Nat.{ℕ, zero, suc}
use mathlib.Core.Path.{◌≡◌, refl, sym, ap, ◌∙◌, subst}
use mathlib.Core.Logic.{◌⊎◌, inl, inr, ⊎_elim}
use mathlib.Core.List.Memᴰ
use mathlib.Core.List.{List, [], ◌∷◌, Memᴰ}
use mathlib.Core.Bool.{Bool, true, false, cond, true≢false}
use native.Mathlib.Decide.{ℕ_discrete}
use lib.Dec.{leb, eqb}
use borrow.Author.Tests.{eq-eqb, eqb-true, le-leb, leb-true}
use Rattle.laws.specs.Refusal.{unless, ◌▸◌, first_of}
use Rattle.laws.specs.Lists.{has}
use Rattle.laws.proofs.First.{both, second, passed, pass}
use Rattle.laws.proofs.Flags.{both_true}
use Rattle.image.specs.Header.{ink_right, first_ink_version, last_ink_version}
use Rattle.image.specs.Sections.{Sections, node_count}
use Rattle.image.specs.Refusals.{bad_ink_version, too_few_words}
use Rattle.records.specs.Fields.{Field, target_before, no_place}
use Rattle.records.specs.Records.{fields_at, first_field, fields_rule}
use Rattle.records.proofs.PassedRules.{each_field, all_fields-pass}
use Rattle.draft.specs.Draft.{draft_child_rule, draft_named_rule, draft_definition_rule, draft_item_rule, write_words, reach_rule, relation_rule, order_rule, shape_rule}
use Rattle.draft.specs.PathList.{follows, without_target, path_fields_rule, path_node_rule, path_tables_rule}
use Rattle.draft.proofs.PathTables.{path-tables}
use Rattle.promises.specs.Rules.{FieldRight}
use Rattle.promises.proofs.Fields.{field_right, right_field, fields-right, right-fields}
use Rattle.written.proofs.DraftRules.{tables-right_by, right-tables_by, reached-right, right-reached, shape-right, right-shape}
use Rattle.target_finding.specs.Targets.{PathList, path_list_rule, target_rule, resolve_rule}
use Rattle.refusal_numbers.specs.Numbers.{draft_numbers}
use Rattle.refusal_numbers.proofs.OneOf.{In, among, numbers}
use Rattle.resolver_rules.specs.ResolverRules.{ListRight, FoundLater, TestsRight}
use Rattle.resolver_rules.proofs.Paths.{list_right_lem, right-list, follower, right-follows}

-- ---- 19: the fields of a node but for the target

abbrev Other : Field → Type 0
Other x = target_before x no_place ≡ no_place

has_other : (xs : List Field) (x : Field) → Memᴰ x xs → Other x → Memᴰ x (without_target xs)
unfolding without_target
has_other [] x m o = absurd (Memᴰ.not-nil m)
has_other (y ∷ ys) x m o = ⊎_elim (λ e. here e) (λ q. further (eqb (target_before y no_place) no_place) (has_other ys x q o)) (Memᴰ.cases_cons m)
  where
    here : x ≡ y → Memᴰ x (cond (eqb (target_before y no_place) no_place) (y ∷ without_target ys) (without_target ys))
    here e = rw (eq-eqb (target_before y no_place) no_place (subst Other e o)) (Memᴰ.head e)

    further : (b : Bool) → Memᴰ x (without_target ys) → Memᴰ x (cond b (y ∷ without_target ys) (without_target ys))
    further true q = Memᴰ.tail q
    further false q = q

other_has : (xs : List Field) (x : Field) → Memᴰ x (without_target xs) → Memᴰ x xs × Other x
unfolding without_target
other_has [] x m = absurd (Memᴰ.not-nil m)
other_has (y ∷ ys) x m = by (eqb (target_before y no_place) no_place) refl (other_has ys x) m
  where
    more : (Memᴰ x (without_target ys) → Memᴰ x ys × Other x) → Memᴰ x (without_target ys) → Memᴰ x (y ∷ ys) × Other x
    more next q = let r = next q in (Memᴰ.tail r.0, r.1)

    by : (b : Bool) → eqb (target_before y no_place) no_place ≡ b → (Memᴰ x (without_target ys) → Memᴰ x ys × Other x)
        → Memᴰ x (cond b (y ∷ without_target ys) (without_target ys)) → Memᴰ x (y ∷ ys) × Other x
    by true h next m =
        ⊎_elim (λ (e : x ≡ y). (Memᴰ.head e, subst Other (sym e) (eqb-true (target_before y no_place) no_place h))) (more next) (Memᴰ.cases_cons m)
    by false h next m = more next m

module _ (s : Sections) (p : PathList) (i : ℕ) where
  abbrev Right : Field → Type 0
  Right x = FieldRight s i x ⊎ FoundLater s p i x

  path-fields-right : path_fields_rule s p.entries i ≡ 0 → (x : Field) → Memᴰ x (fields_at s i) → Right x
  unfolding path_fields_rule
  path-fields-right h x m = by (follows s p.entries i) refl h
    where
      by : (b : Bool) → follows s p.entries i ≡ b → cond b (first_field s i (without_target (fields_at s i))) (fields_rule s i) ≡ 0 → Right x
      by false g h = inl (fields-right s i h x m)
      by true g h =
          elim (ℕ_discrete (target_before x no_place) no_place) [
            | yes o ↦ inl (field_right s i x (each_field s i (without_target (fields_at s i)) h x (has_other (fields_at s i) x m o)))
            | no d ↦ inr (let q = follower s p i g in record { target = d; entry = q.entry; follows = q.follows })
          ]

  right-path-fields : ListRight s p → ((x : Field) → Memᴰ x (fields_at s i) → Right x) → path_fields_rule s p.entries i ≡ 0
  unfolding path_fields_rule
  right-path-fields l r = by (follows s p.entries i) refl
    where
      own : follows s p.entries i ≡ false → (x : Field) → Right x → FieldRight s i x
      own g x (inl q) = q
      own g x (inr q) = absurd (true≢false (sym (right-follows s p i l q.entry q.follows) ∙ g))

      other : (x : Field) → Other x → Right x → FieldRight s i x
      other x o (inl q) = q
      other x o (inr q) = absurd (q.target o)

      by : (b : Bool) → follows s p.entries i ≡ b → cond b (first_field s i (without_target (fields_at s i))) (fields_rule s i) ≡ 0
      by false g = right-fields s i (λ x m. own g x (r x m))
      by true g =
          all_fields-pass s i (without_target (fields_at s i))
          (λ x m. let q = other_has (fields_at s i) x m in right_field s i x (other x q.1 (r x q.0)))

-- ---- all of them

module _ (ink : ℕ) (s : Sections) (p : PathList) (work : ℕ) where
  -- each test before the nodes' targets passes
  pub record Passes : Type 0 where
    pub versions : unless (ink_right ink) bad_ink_version ≡ 0
    pub list : path_list_rule s p ≡ 0
    pub tables : path_tables_rule s p.entries ≡ 0
    pub words : unless (leb (write_words s) work) too_few_words ≡ 0
    pub reach : reach_rule s ≡ 0
    pub shape : shape_rule s ≡ 0

  pub tests-right : Passes → TestsRight ink s p work
  unfolding path_list_rule path_tables_rule path_node_rule
  tests-right q =
      let versions = both_true (leb first_ink_version ink) (leb ink last_ink_version) (passed _ 2 q.versions) in
      record {
        ink_least = leb-true _ _ versions.0;
        ink_most = leb-true _ _ versions.1;
        list = list_right_lem s p (passed _ 18 q.list);
        tables = tables-right_by s (path_fields_rule s p.entries) (λ i x. Right s p i x) q.tables (path-tables s p.entries q.tables)
            (λ i h. path-fields-right s p i);
        words = leb-true _ _ (passed _ 6 q.words);
        reached = reached-right s q.reach;
        shape = shape-right s q.shape;
      }

  pub right-tests : TestsRight ink s p work → Passes
  unfolding path_list_rule path_tables_rule path_node_rule
  right-tests r =
      let tables : path_tables_rule s p.entries ≡ 0 = right-tables_by s (path_fields_rule s p.entries) (λ i x. Right s p i x) r.tables (λ i. right-path-fields s p i r.list) in
      record {
        versions = pass _ 3 (rw (le-leb first_ink_version ink r.ink_least, le-leb ink last_ink_version r.ink_most));
        list = pass _ 19 (right-list s p r.list);
        tables = tables;
        words = pass _ 7 (le-leb (write_words s) work r.words);
        reach = right-reached s (path_fields_rule s p.entries) (path-tables s p.entries tables) r.reached;
        shape = right-shape s r.shape;
      }

  -- ---- behind them the nodes' targets decide

  abbrev targets : ℕ
  targets = first_of (node_count s) (target_rule s p)

  pub decided : Passes → resolve_rule ink s p work ≡ targets
  unfolding resolve_rule
  decided q =
      second _ _ q.versions ∙ second _ _ q.list ∙ second _ _ q.tables ∙ second _ _ q.words ∙ second _ _ q.reach ∙ second _ _ q.shape

  -- a number that no test before them gives: they pass, and it is that of the targets
  behind : (a b r : ℕ) → In draft_numbers a → has r draft_numbers ≡ false → (a ▸ b) ≡ r → (a ≡ 0) × (b ≡ r)
  unfolding ◌▸◌
  behind zero b r i h e = (refl, e)
  behind (suc a) b r i h e = absurd (true≢false (sym (among draft_numbers (suc a) i) ∙ ap (λ (n : ℕ). has n draft_numbers) e ∙ h))

  pub late : (r : ℕ) → has r draft_numbers ≡ false → resolve_rule ink s p work ≡ r → Passes
  unfolding resolve_rule path_list_rule path_tables_rule path_node_rule draft_child_rule draft_named_rule draft_definition_rule draft_item_rule reach_rule shape_rule relation_rule order_rule has
  late r h e =
      let versions = behind _ _ r (search numbers) h e in
      let list = behind _ _ r (search numbers) h versions.1 in
      let tables = behind _ _ r (search numbers depth 20) h list.1 in
      let words = behind _ _ r (search numbers) h tables.1 in
      let reach = behind _ _ r (search numbers) h words.1 in
      let shape = behind _ _ r (search numbers depth 20) h reach.1 in
      record { versions = versions.0; list = list.0; tables = tables.0; words = words.0; reach = reach.0; shape = shape.0 }

  pub none-refused : resolve_rule ink s p work ≡ 0 → Passes
  unfolding resolve_rule
  none-refused e =
      let versions = both _ _ e in
      let list = both _ _ versions.1 in
      let tables = both _ _ list.1 in
      let words = both _ _ tables.1 in
      let reach = both _ _ words.1 in
      let shape = both _ _ reach.1 in
      record { versions = versions.0; list = list.0; tables = tables.0; words = words.0; reach = reach.0; shape = shape.0 }
