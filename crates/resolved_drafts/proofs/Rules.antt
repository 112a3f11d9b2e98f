-- A draft that is not refused, resolved: its targets, and the rules 19 to 21.
use Rattle.std.specs.Prelude.{None, Option, Some, ℕ, is_some}
use Prim.Native.Nat.{ℕ, ◌+◌, ◌*◌, ◌/◌, ◌%◌, ◌≤◌, ◌<◌}
use mathlib.Core.Path.{◌≡◌, refl, sym, ap, ◌∙◌, subst}
use mathlib.Core.Logic.{inl, inr}
use mathlib.Core.Bool.{Bool, true, false, ◌&&◌, ◌||◌, not, true≢false, or-true}
use native.Mathlib.Omega.{arith}
use lib.ListN.{length}
use lib.Dec.{eqb, leb}
use borrow.Author.Tests.{eqb-true, leb-true}
use Rattle.laws.specs.Refusal.{unless}
use Rattle.laws.proofs.First.{both, then, passed, pass, as_zero, zero_as, first_all, first_of_lem}
use Rattle.laws.proofs.Flags.{both_true}
use Rattle.words.specs.Words.{NONE, is_none}
use Rattle.image.specs.Entries.{node_in}
use Rattle.image.specs.Header.{ink_right}
use Rattle.image.specs.Refusals.{bad_draft, bad_text, bad_tag}
use Rattle.image.specs.Sections.{Sections, common_words, node_words, text_entry_words, definition_words, node_count, node_word, tag_of, f, good_in, optional_in, inside_among, inside, is_container, inside_container}
use Rattle.image.specs.Tags.{choice_tag, divert_tag, target_tag, reference_tag}
use Rattle.image.proofs.Parts.{optional-absent}
use Rattle.image.proofs.Widths.{words-some}
use Rattle.records.specs.Fields.{target_place, kind_of, fields, kinds, schema, text, optional, at_most}
use Rattle.records.specs.Records.{field_word, target_in, field_rule, first_field, fields_at, fields_rule}
use Rattle.draft.specs.Draft.{whole_entries, draft_node_rule, entry_tables_rule, tables_rule, write_words, reach_rule, shape_rule}
use Rattle.draft.specs.PathList.{path_origin, path_of, listed, follows, without_target, path_fields_rule, path_node_rule, path_tables_rule}
use Rattle.draft.proofs.PathTables.{FollowTag, path-whole}
use Rattle.lookups.proofs.Plain.{last_some}
use Rattle.target_finding.specs.Targets.{PathList, path_end, ends_in_index, needs_container, end_rule, entry_rule, target_rule, resolve_rule, target_found, is_path_text, followed_word, resolved_nodes, resolved}
use Rattle.walks.proofs.WalkEnds.{Leads}
use Rattle.static_targets.proofs.FoundInside.{leads, end_inside}
use Rattle.resolved_drafts.specs.Resolved.{ResolvedPasses, TargetSet, TargetsSet}
use Rattle.draft.proofs.SameTree.{SameTree, same-inside, same_box, same-fields, same_tables, same-reach, same_shape}
use Rattle.resolved_drafts.proofs.Reading.{nodes-length, node-count, node-word, passed-word, followed-word, tag_of_follower, same-tree}

-- ---- what 'not refused' gives

pub record Taken (ink : ℕ) (s : Sections) (p : PathList) (work : ℕ) : Type 0 where
  pub versions : ink_right ink ≡ true
  pub entries : whole_entries s ≡ true
  pub whole : length s.nodes ≡ node_count s * node_words s.version
  pub nodes : (i : ℕ) → i < node_count s → path_node_rule s p.entries i ≡ 0
  pub tables : entry_tables_rule s ≡ 0
  pub enough : write_words s ≤ work
  pub reach : reach_rule s ≡ 0
  pub shape : shape_rule s ≡ 0
  pub targets : (i : ℕ) → i < node_count s → target_rule s p i ≡ 0
  pub led : Leads s

pub taken : (ink : ℕ) (s : Sections) (p : PathList) (work : ℕ) → resolve_rule ink s p work ≡ 0 → Taken ink s p work
unfolding resolve_rule path_tables_rule
taken ink s p work h =
    let after_ink = both _ _ h in
    let after_List = both _ _ after_ink.1 in
    let after-tables = both _ _ after_List.1 in
    let after-words = both _ _ after-tables.1 in
    let after-reach = both _ _ after-words.1 in
    let after-shape = both _ _ after-reach.1 in
    let rows = both _ _ after-tables.0 in
    let nodes = both _ _ rows.1 in
    let entries = passed _ 18 rows.0 in
    record {
      versions = passed _ 2 after_ink.0;
      entries = entries;
      whole = (path-whole s p.entries after-tables.0).nodes;
      nodes = first_all _ _ nodes.0;
      tables = nodes.1;
      enough = leb-true _ _ (passed _ 6 after-words.0);
      reach = after-reach.0;
      shape = after-shape.0;
      targets = first_all _ _ after-shape.1;
      led = leads s p.entries after-tables.0 after-shape.0;
    }

-- ---- the target of a node that follows a path

pub record Target (s : Sections) (p : PathList) (i : ℕ) : Type 0 where
  pub entry : ℕ
  pub node : ℕ
  pub listed : path_of p.entries i ≡ Some entry
  pub end : path_end s p i entry ≡ Some node
  pub is : target_found s p i ≡ node
  pub within : inside s node ≡ true
  pub container : needs_container (tag_of s i) (ends_in_index p entry) ≡ true → is_container s node ≡ true

module _ (s : Sections) (p : PathList) (l : Leads s) (i : ℕ) (g : follows s p.entries i ≡ true) where
  target_at_lem : (k n : ℕ) → path_of p.entries i ≡ Some k → path_end s p i k ≡ Some n
      → (not (needs_container (tag_of s i) (ends_in_index p k)) || is_container s n) ≡ true → Target s p i
  target_at_lem k n e q d =
      record {
        entry = k;
        node = n;
        listed = e;
        end = q;
        is = reads;
        within = end_inside s l p i k n q;
        container = λ c. due (needs_container (tag_of s i) (ends_in_index p k)) c d;
      }
    where
      due : (b : Bool) → b ≡ true → (not b || is_container s n) ≡ true → is_container s n ≡ true
      due true c d = d
      due false c d = absurd (true≢false (sym c))

      reads : target_found s p i ≡ n
      reads = unfold target_found in rw (g, e, q) refl

  target_end : (k : ℕ) → path_of p.entries i ≡ Some k → (x : Option ℕ) → path_end s p i k ≡ x
      → end_rule s (needs_container (tag_of s i) (ends_in_index p k)) x ≡ 0 → Target s p i
  target_end k e None q h = absurd (omega arith)
  target_end k e (Some n) q h = target_at_lem k n e q (passed _ 25 h)

  target-entry : (x : Option ℕ) → path_of p.entries i ≡ x → entry_rule s p i x ≡ 0 → Target s p i
  target-entry None e h = absurd (true≢false (sym (both_true (listed p.entries i) _ g).0 ∙ ap is_some e))
  target-entry (Some k) e h = target_end k e (path_end s p i k) refl h

  pub target : target_rule s p i ≡ 0 → Target s p i
  unfolding target_rule
  target h = target-entry (path_of p.entries i) refl (rw g at h)

module _ (ink : ℕ) (s : Sections) (p : PathList) (work : ℕ) (q : Taken ink s p work) where
  abbrev r : Sections
  r = resolved s p

  abbrev tree : SameTree s (resolved_nodes s p)
  tree = same-tree s p q.whole

  -- ---- a node that follows a path

  module _ (i : ℕ) (h : i < node_count s) (g : follows s p.entries i ≡ true) where
    abbrev goal : Target s p i
    goal = target s p q.led i g (q.targets i h)

    word : (t : ℕ) → tag_of s i ≡ t → (k : ℕ) → k < common_words → node_word r i k ≡ followed_word t goal.node k (node_word s i k)
    word t e k l =
        node-word s p i k h (omega (arith, words-some s.version)) ∙ followed-word s p i k g
        ∙ (λ j. followed_word (e j) (goal.is j) k (node_word s i k))

    -- its fields but the target pass
    others : (t : ℕ) → tag_of s i ≡ t → first_field s i (without_target (fields (kind_of t))) ≡ 0
    unfolding path_node_rule path_fields_rule
    others t e =
        let all : first_field s i (without_target (fields_at s i)) ≡ 0 = rw g at (as_zero 18 _ (both _ _ (q.nodes i h)).0) in
        subst (λ (x : ℕ). first_field s i (without_target (fields (kind_of x))) ≡ 0) e all

    node-there : (n : ℕ) → n ≡ goal.node → inside r n ≡ true
    node-there n e = ap (inside r) e ∙ same-inside s _ tree goal.node ∙ goal.within

    box_there : (n : ℕ) → n ≡ goal.node → needs_container (tag_of s i) (ends_in_index p goal.entry) ≡ true → inside_container r n ≡ true
    box_there n e d =
        rw (node-there n e)
        (ap (is_container r) e ∙ same_box s _ tree goal.node ∙ goal.container d)

    abbrev Passes : ℕ → Type 0
    Passes t = (first_field r i (fields (kind_of t)) ≡ 0) × (field_word (node_in r i) (target_place (kind_of t)) ≡ goal.node)

    -- by its kind: the fields pass, and its target is the node
    of_choice : tag_of s i ≡ choice_tag → Passes choice_tag
    unfolding first_field field_rule fields kinds schema followed_word is_path_text without_target field_word needs_container
    of_choice e =
        let f0 : f r i 0 ≡ NONE = word 2 e 3 (omega arith) in
        let f1 : f r i 1 ≡ NONE = word 2 e 4 (omega arith) in
        let f2 : f r i 2 ≡ goal.node = word 2 e 5 (omega arith) in
        (then _ _ (pass _ 10 (optional-absent s.strings _ _ f0 f1)) (then _ _ (pass _ 9 (box_there (f r i 2) f2 (rw e refl))) (then _ _ refl refl)), f2)

    of_divert : tag_of s i ≡ divert_tag → Passes divert_tag
    unfolding first_field field_rule fields kinds schema followed_word is_path_text without_target field_word needs_container
    of_divert e =
        let f0 : f r i 0 ≡ NONE = word 4 e 3 (omega arith) in
        let f1 : f r i 1 ≡ NONE = word 4 e 4 (omega arith) in
        let f2 : f r i 2 ≡ goal.node = word 4 e 5 (omega arith) in
        let f3 : f r i 3 ≡ f s i 3 = word 4 e 6 (omega arith) in
        let f4 : f r i 4 ≡ f s i 4 = word 4 e 7 (omega arith) in
        let f6 : f r i 6 ≡ f s i 6 = word 4 e 9 (omega arith) in
        let rest = both _ _ (both _ _ (others 4 e)).1 in
        let flags = (both _ _ (both _ _ rest.1).1).0 in
        let variable : field_rule r i (optional 3) ≡ 0 = (λ j. unless (optional_in s.strings (f3 j) (f4 j)) bad_text) ∙ rest.0 in
        let few : field_rule r i (at_most 6 23) ≡ 0 = (λ j. unless (leb (f6 j) 23) bad_tag) ∙ flags in (
          then _ _ (pass _ 10 (optional-absent s.strings _ _ f0 f1))
              (then _ _ (pass _ 9 (rw (node-there (f r i 2) f2) (or-true (is_none (f r i 2))))) (then _ _ variable (then _ _ refl (then _ _ few refl)))),
          f2,
        )

    of_value : tag_of s i ≡ target_tag → Passes target_tag
    unfolding first_field field_rule fields kinds schema followed_word is_path_text without_target field_word needs_container
    of_value e =
        let f0 : f r i 0 ≡ f s i 0 = word 13 e 3 (omega arith) in
        let f1 : f r i 1 ≡ f s i 1 = word 13 e 4 (omega arith) in
        let f2 : f r i 2 ≡ goal.node = word 13 e 5 (omega arith) in
        let path : field_rule r i (text 0) ≡ 0 = (λ j. unless (good_in s.strings (f0 j) (f1 j)) bad_text) ∙ (both _ _ (others 13 e)).0 in
        (then _ _ path (then _ _ (pass _ 9 (node-there (f r i 2) f2)) refl), f2)

    of_reference : tag_of s i ≡ reference_tag → Passes reference_tag
    unfolding first_field field_rule fields kinds schema followed_word is_path_text without_target field_word needs_container
    of_reference e =
        let f0 : f r i 0 ≡ f s i 0 = word 17 e 3 (omega arith) in
        let f1 : f r i 1 ≡ f s i 1 = word 17 e 4 (omega arith) in
        let f2 : f r i 2 ≡ NONE = word 17 e 5 (omega arith) in
        let f3 : f r i 3 ≡ NONE = word 17 e 6 (omega arith) in
        let f4 : f r i 4 ≡ goal.node = word 17 e 7 (omega arith) in
        let name : field_rule r i (text 0) ≡ 0 = (λ j. unless (good_in s.strings (f0 j) (f1 j)) bad_text) ∙ (both _ _ (others 17 e)).0 in (
          then _ _ name
              (then _ _ (pass _ 10 (optional-absent s.strings _ _ f2 f3))
              (then _ _ (pass _ 9 (rw (box_there (f r i 4) f4 (rw e refl)) (or-true (is_none (f r i 4))))) refl)),
          f4,
        )

    of_kind_lem : FollowTag (tag_of s i) → Passes (tag_of s i)
    of_kind_lem (inl e) = subst Passes (sym e) (of_choice e)
    of_kind_lem (inr (inl e)) = subst Passes (sym e) (of_divert e)
    of_kind_lem (inr (inr (inl e))) = subst Passes (sym e) (of_value e)
    of_kind_lem (inr (inr (inr e))) = subst Passes (sym e) (of_reference e)

    same_tag : tag_of r i ≡ tag_of s i
    same_tag = tree.tags i

    its_kind : Passes (tag_of s i)
    its_kind = of_kind_lem (tag_of_follower s p i g)

    pub followed-fields : fields_rule r i ≡ 0
    followed-fields = ap (λ (t : ℕ). first_field r i (fields (kind_of t))) same_tag ∙ its_kind.0

    pub followed-target : TargetSet s p i
    unfolding target_in path_of
    followed-target =
        record {
          entry = goal.entry;
          node = goal.node;
          origin = eqb-true _ _ (last_some (λ k. eqb (path_origin p.entries k) i) _ goal.entry goal.listed).passes;
          listed = goal.listed;
          end = goal.end;
          target = ap (λ (t : ℕ). field_word (node_in r i) (target_place (kind_of t))) same_tag ∙ its_kind.1;
          within = node-there goal.node refl;
          container = λ d. same_box s _ tree goal.node ∙ goal.container d;
        }

  -- ---- a node that is passed over

  module _ (i : ℕ) (h : i < node_count s) (g : follows s p.entries i ≡ false) where
    passed-fields : fields_rule r i ≡ 0
    unfolding path_node_rule path_fields_rule
    passed-fields =
        let own : fields_rule s i ≡ 0 = rw g at (as_zero 18 _ (both _ _ (q.nodes i h)).0) in
        same-fields s _ tree i (λ k l. node-word s p i (3 + k) h (omega (arith, words-some s.version)) ∙ passed-word s p i (3 + k) g) ∙ own

  -- ---- 19

  all_fields : (i : ℕ) → i < node_count s → fields_rule r i ≡ 0
  all_fields i h = by (follows s p.entries i) refl
    where
      by : (b : Bool) → follows s p.entries i ≡ b → fields_rule r i ≡ 0
      by true g = followed-fields i h g
      by false g = passed-fields i h g

  node-passes : (i : ℕ) → i < node_count s → draft_node_rule r i ≡ 0
  unfolding draft_node_rule path_node_rule
  node-passes i h =
      then _ _ (zero_as 19 _ (all_fields i h))
      ((λ j. unless (eqb i 0 || inside_among (node-count s p j) (tree.parents i j)) bad_draft) ∙ (both _ _ (q.nodes i h)).1)

  whole-passes : whole_entries r ≡ true
  unfolding whole_entries
  whole-passes =
      let long : length (resolved_nodes s p) ≡ length s.nodes = nodes-length s p ∙ sym q.whole in
      (λ j.
      eqb (long j % node_words s.version) 0 && eqb (length s.named % text_entry_words) 0 && eqb (length s.definitions % definition_words) 0
      && eqb (length s.items % text_entry_words) 0 && not (eqb (long j / node_words s.version) 0))
      ∙ q.entries

  pub tables-pass : tables_rule r ≡ 0
  unfolding tables_rule
  tables-pass =
      then _ _ (pass _ 19 whole-passes)
      (then _ _ (first_of_lem (node_count r) (draft_node_rule r) (λ i h. node-passes i (rw (node-count s p) at h))) (same_tables s _ tree ∙ q.tables))

pub resolved-passes : ResolvedPasses
resolved-passes ink s p work h =
    let q = taken ink s p work h in
    let tree = same-tree s p q.whole in
    record { tables = tables-pass ink s p work q; reach = same-reach s _ tree ∙ q.reach; shape = same_shape s _ tree ∙ q.shape }

pub targets-set : TargetsSet
targets-set ink s p work h i l g = followed-target ink s p work (taken ink s p work h) i l g
