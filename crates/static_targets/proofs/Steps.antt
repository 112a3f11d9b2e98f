-- The steps with the work words: what each asks, and what its answer comes to.
use Rattle.std.specs.Prelude.{None, Option, Some, ℕ, is_some}
use Prim.Native.Nat.{ℕ, ◌+◌, ◌*◌, ◌-◌, ◌/◌, ◌≤◌}
use mathlib.Core.Path.{◌≡◌, refl, sym, ◌∙◌, subst}
use mathlib.Core.List.{List}
use mathlib.Core.Bool.{Bool, true, false, true≢false}
use native.Mathlib.Omega.{arith}
use lib.ListN.{length}
use Rattle.laws.specs.Refusal.{◌▸◌}
use Rattle.laws.proofs.First.{both, second, first_all, pass, fail}
use Rattle.laws.proofs.Chains.{refused}
use Rattle.laws.proofs.Flags.{both_true}
use Rattle.words.specs.Words.{NONE}
use Rattle.image.specs.Sections.{Sections, node_words, node_count, tag_of}
use Rattle.image.specs.Entries.{node_in}
use Rattle.tree.specs.Tree.{read_walk, all_seen}
use Rattle.tree.specs.Work.{tree_words}
use Rattle.tree.specs.Parts.{Fit}
use Rattle.draft.specs.Draft.{write_words, reach_rule, shape_rule}
use Rattle.draft.specs.PathList.{path_of, list_right, may_follow, follows, path_tables_rule}
use Rattle.draft.specs.Shown.{TablesPassed}
use Rattle.draft.specs.Source.{draft_of}
use Rattle.draft.proofs.PathTables.{path-tables, path-whole, path_fit, path-passed}
use Rattle.draft_tree.specs.Testing.{Testable}
use Rattle.walks.specs.Walk.{component_words}
use Rattle.write_numbering.specs.Work.{tree_of, Leads}
use Rattle.write_numbering.proofs.WholeDraft.{whole-seen, fit_tree, leads_tree}
use Rattle.target_finding.specs.Targets.{PathList, path_end, ends_in_index, needs_container, end_rule, entry_rule, target_rule, found_node, entry_target, target_found, path_list}
use Rattle.target_finding.specs.Finding.{ComponentsInside, OriginsInside, OriginsApart, AllFound}
use Rattle.static_targets.specs.Late.{Late}
use Rattle.target_setting.specs.Setting.{Settable, AllSet}
use Rattle.target_setting.proofs.AllResolved.{TargetsAt, settable, all_resolved}
use Rattle.static_targets.proofs.Answers.{late-tree, late-target, late-done}
use Rattle.target_setting.proofs.RightEntries.{entry-right, origins-inside, origins-apart}
use Rattle.static_targets.proofs.FoundInside.{leads, end_some}

-- ---- a node that follows a path and passes has a target

module _ (s : Sections) (p : PathList) (t : path_tables_rule s p.entries ≡ 0) (q : shape_rule s ≡ 0) (i : ℕ) where
  end_is_node : (k : ℕ) (due : Bool) (y : Option ℕ) → path_end s p i k ≡ y → end_rule s due y ≡ 0 → found_node y ≡ NONE → ⊥
  end_is_node k due None e r z = omega arith
  end_is_node k due (Some n) e r z = end_some s (leads s p.entries t q) p i k n e z

  by_entry : (x : Option ℕ) → is_some x ≡ true → entry_rule s p i x ≡ 0 → entry_target s p i x ≡ NONE → ⊥
  by_entry None l r z = true≢false (sym l)
  by_entry (Some k) l r z = end_is_node k (needs_container (tag_of s i) (ends_in_index p k)) (path_end s p i k) refl r z

  target-there : target_rule s p i ≡ 0 → follows s p.entries i ≡ true → target_found s p i ≡ NONE → ⊥
  unfolding target_rule target_found
  target-there r f z =
      by_entry (path_of p.entries i) (both_true (is_some (path_of p.entries i)) (may_follow (node_in s i)) f).0 (rw f at r) (rw f at z)

-- ---- the steps

module _ (version : ℕ) (ns cs ms ds is ps ss entries lent names : List ℕ) (t : path_tables_rule (draft_of version ns cs ms ds is ps ss) entries ≡ 0) where
  abbrev s : Sections
  s = draft_of version ns cs ms ds is ps ss

  abbrev p : PathList
  p = path_list entries lent names

  abbrev tree : Sections
  tree = tree_of version ns cs ms

  pub shape_asks : TablesPassed s
  shape_asks = path-passed s entries t

  pub number_asks : (w₀ : List ℕ) → length w₀ ≡ write_words s → (count : ℕ) → count ≡ node_count s
      → Fit tree × Leads tree × (tree_words tree ≤ length w₀ - 2 * count) × (length w₀ - 2 * count + 2 * node_count tree ≤ length w₀)
  number_asks w₀ long count e =
      let tables = path-tables s entries t in (
        fit_tree version ns cs ms ds is ps ss (path_fit s entries t),
        leads_tree version ns cs ms ds is ps ss (record { child = tables.children; named = tables.named-nodes }),
        omega (arith, tables.some),
        omega arith,
      )

  -- ---- 20 and 21

  pub tree_asks : (w : List ℕ) → length w ≡ write_words s → Testable s w
  tree_asks w long = record { paths = entries; passed = t; enough = omega arith }

  module _ (b : Bool) (seen : b ≡ all_seen tree (read_walk tree).seen) where
    seen-whole : b ≡ all_seen s (read_walk s).seen
    seen-whole = seen ∙ whole-seen version ns cs ms ds is ps ss

    pub unreached : b ≡ false → 20 ≡ (reach_rule s ▸ shape_rule s)
    unfolding reach_rule
    unreached e = refused (reach_rule s) (shape_rule s) 20 (sym (fail _ 20 (sym seen-whole ∙ e))) (λ q. omega arith)

    pub shape-decides : b ≡ true → (k : ℕ) → k ≡ shape_rule s → k ≡ (reach_rule s ▸ shape_rule s)
    unfolding reach_rule
    shape-decides all k e = e ∙ sym (second _ _ (pass _ 20 (sym seen-whole ∙ all)))

  -- ---- 25 and 26

  module _ (k₁ : ℕ) (e₁ : k₁ ≡ (reach_rule s ▸ shape_rule s)) where
    pub misshapen : (k₁ ≡ 0 → ⊥) → Late s p ns k₁
    misshapen d = late-tree s p k₁ e₁ d

    module _ (z₁ : k₁ ≡ 0) where
      reach : reach_rule s ≡ 0
      reach = (both _ _ (sym e₁ ∙ z₁)).0

      shaped : shape_rule s ≡ 0
      shaped = (both _ _ (sym e₁ ∙ z₁)).1

      -- the targets are in w₂
      module _ (w₂ : List ℕ) (k₂ : ℕ) (found : AllFound s p w₂ k₂) where
        pub no_target_lem : (k₂ ≡ 0 → ⊥) → Late s p ns k₂
        no_target_lem d = late-target s p reach shaped k₂ found.answer d

        module _ (z₂ : k₂ ≡ 0) (long : length w₂ ≡ write_words s) where
          targets_at : TargetsAt s p w₂
          targets_at =
              record {
                enough = omega arith;
                found = found.words z₂;
                some = λ i h. target-there s p t shaped i (first_all (node_count s) (target_rule s p) (sym found.answer ∙ z₂) i h);
              }

          pub set_asks : list_right (node_count s) (length lent / component_words) entries ≡ true → Settable version entries ns w₂
          set_asks l = settable s p w₂ targets_at (length lent / component_words) l

          pub all_set : (ns' : List ℕ) → AllSet version ns w₂ ns' → Late s p ns' k₂
          all_set ns' a =
              subst (Late s p ns') (sym z₂)
              (late-done s p reach shaped (sym z₂ ∙ found.answer) ns' (all_resolved s p w₂ targets_at (path-whole s entries t).nodes ns' a))

-- the rule loop
components-inside : (n : ℕ) (entries lent : List ℕ) → list_right n (length lent / component_words) entries ≡ true → ComponentsInside entries lent
components-inside n entries lent h k l =
    let few = (entry-right n (length lent / component_words) entries h k l).components in
    omega (arith, few)

pub targets_ask : (version : ℕ) (ns cs ms ds is ps ss entries lent w₁ : List ℕ) → length w₁ ≡ write_words (draft_of version ns cs ms ds is ps ss)
    → list_right (node_count (draft_of version ns cs ms ds is ps ss)) (length lent / component_words) entries ≡ true
    → (length ns / node_words version ≤ length w₁) × ComponentsInside entries lent × OriginsInside (length ns / node_words version) entries
    × OriginsApart entries
targets_ask version ns cs ms ds is ps ss entries lent w₁ long l = (omega arith, components-inside _ entries lent l, origins-inside _ _ entries l, origins-apart _ _ entries l)
