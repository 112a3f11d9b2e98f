-- The steps of the plan, by the layout that the caller gives.
use Rattle.std.specs.Prelude.{Err, Ok, Result, ℕ}
use Prim.Native.Nat.{ℕ, ◌+◌, ◌*◌, ◌/◌, ◌≤◌, ◌<◌}
use mathlib.Core.Path.{◌≡◌, refl, sym, ap, ◌∙◌, subst}
use mathlib.Core.List.{List}
use mathlib.Core.Bool.{Bool, true, false}
use native.Mathlib.Omega.{arith}
use lib.ListN.{length, get_or}
use Rattle.texts.specs.Text.{by_key}
use Rattle.image.specs.Sections.{Sections, node_words, node_count}
use Rattle.image.specs.declared.EntryCounts.{EntryCounts}
use Rattle.tree.specs.Tree.{read_walk, all_seen}
use Rattle.tree.specs.Work.{tree_words}
use Rattle.tree.specs.Parts.{Fit}
use Rattle.draft.specs.Shown.{TablesPassed}
use Rattle.draft.proofs.Rules.{tables}
use Rattle.draft.proofs.Row21.{tables-passed}
use Rattle.draft.specs.Draft.{tables_rule, write_words, reach_rule, shape_rule, paths_rule}
use Rattle.draft.specs.Needs.{draft_counts}
use Rattle.draft.specs.Source.{draft_of}
use Rattle.draft.specs.Numbering.{numbering}
use Rattle.draft_image.specs.Strings.{by_path}
use Rattle.draft_image.specs.Ready.{OldsAt}
use Rattle.write_numbering.specs.Work.{tree_of, Leads, Numbered}
use Rattle.write_text_uses.specs.Uses.{words_from, Collectable, Collected}
use Rattle.draft.specs.declared.layout.Layout.{Layout}
use Rattle.write_text_keys.specs.Keys.{key_in, Placed}
use Rattle.write_interning.specs.Uses.{RisesFrom}
use Rattle.write_paths.specs.Listed.{ParentsFirst}
use Rattle.write_paths.specs.Arranged.{Rooted, Indexes}
use Rattle.write_plan.specs.Shared.{SameTexts}
use Rattle.write_plan.specs.Planned.{layout_of, PlanOf, StoredPlan, Shaped, ShapedTables}
use Rattle.write_plan.proofs.Premises.{rooted, parents-first}
use Rattle.write_plan.proofs.PlanSteps.{with_texts, number_fit, number-leads, number_low, number-room, seen-whole, laid, few_nodes, olds-known, olds_in, plan_unreached, reach-passes, plan_shape, plan_paths, indexed-refused, collect_asks, store_room, store_tables, store_placed, store_rises, planned}

-- ---- rules 20 and 21

module _ (version : ℕ) (ns cs ms ds is ps ss : List ℕ) (p : tables_rule (draft_of version ns cs ms ds is ps ss) ≡ 0) (l : Layout)
    (el : l ≡ layout_of (draft_of version ns cs ms ds is ps ss)) (w₀ : List ℕ) (long₀ : length w₀ ≡ write_words (draft_of version ns cs ms ds is ps ss))
    (c : EntryCounts) (ec : c ≡ draft_counts (draft_of version ns cs ms ds is ps ss)) where
  abbrev s : Sections
  s = draft_of version ns cs ms ds is ps ss

  pub shape_asks : TablesPassed s
  shape_asks = tables-passed s (tables s p)

  pub number_asks : Fit (tree_of version ns cs ms) × Leads (tree_of version ns cs ms) × (tree_words (tree_of version ns cs ms) ≤ l.order)
      × (l.order + 2 * node_count (tree_of version ns cs ms) ≤ length w₀)
  number_asks = (
    number_fit version ns cs ms ds is ps ss p,
    number-leads version ns cs ms ds is ps ss p,
    rw el (number_low version ns cs ms ds is ps ss p),
    rw (el, long₀) (number-room version ns cs ms ds is ps ss p),
  )

  -- numbered in w₁
  module _ (b : Bool) (seen : b ≡ all_seen (tree_of version ns cs ms) (read_walk (tree_of version ns cs ms)).seen) where
    pub unreached : (w : List ℕ) → b ≡ false → PlanOf s w (Err 20)
    unreached w e = plan_unreached s w (sym (seen-whole version ns cs ms ds is ps ss p b seen) ∙ e)

    module _ (all : b ≡ true) (w₁ : List ℕ) (long₁ : length w₁ ≡ length w₀) (marks : b ≡ true → Numbered (tree_of version ns cs ms) l.order w₁) where
      reach : reach_rule s ≡ 0
      reach = reach-passes s (sym (seen-whole version ns cs ms ds is ps ss p b seen) ∙ all)

      pub misshapen : (w : List ℕ) (k : ℕ) → k ≡ shape_rule s → (k ≡ 0 → ⊥) → PlanOf s w (Err k)
      misshapen w k e d = plan_shape s reach w k e d

      pub shaped : (k : ℕ) → k ≡ shape_rule s → k ≡ 0 → Shaped s w₁ l c
      shaped k e none =
          record { tables = p; reach = reach; shape = sym e ∙ none; layout = el; counts = ec; long = long₁ ∙ long₀; numbers = marks all }

      pub texts_ask : (k : ℕ) → k ≡ shape_rule s → k ≡ 0 → ShapedTables version ns ms ds is ps ss w₁ l c
      texts_ask k e none = record { children = cs; known = shaped k e none }

-- ---- rule 22, and the texts

module _ (version : ℕ) (ns cs ms ds is ps ss w₁ : List ℕ) (l : Layout) (c : EntryCounts) (known : Shaped (draft_of version ns cs ms ds is ps ss) w₁ l c) where
  abbrev t : Sections
  t = draft_of version ns cs ms ds is ps ss

  p : tables_rule t ≡ 0
  p = known.tables

  q : reach_rule t ≡ 0
  q = known.reach

  r : shape_rule t ≡ 0
  r = known.shape

  el : l ≡ layout_of t
  el = known.layout

  long : length w₁ ≡ write_words t
  long = known.long

  numbers : Numbered (tree_of version ns cs ms) (layout_of t).order w₁
  numbers = subst (λ (x : Layout). Numbered (tree_of version ns cs ms) x.order w₁) el known.numbers

  pub paths_asks : ((length ns / node_words version + length ns / node_words version ≤ l.at) × (l.paths + length ns / node_words version ≤ l.lengths)
      × (l.at + l.lengths + length ns / node_words version + length ns / node_words version ≤ l.order) × (l.order + length ns / node_words version ≤ length w₁))
      × (((l.texts ≡ 0) × (length ns / node_words version ≤ length ns / node_words version) × (length ns / node_words version ≤ 4294967295))
      × (((j : ℕ) → j < length ns / node_words version → get_or w₁ (l.order + j) 0 < length ns / node_words version)
      × ParentsFirst version ns w₁ l.order (length ns / node_words version)))
  paths_asks =
      let room = laid version ns cs ms ds is ps ss p in (
        rw (el, long) (room.sort, room.lists, room.sizes, room.numbers),
        (
          (ap (λ (x : Layout). x.texts) el, omega arith, few_nodes version ns cs ms ds is ps ss p q w₁ long numbers),
          (
            λ j h. rw el (olds_in version ns cs ms ds is ps ss p q w₁ long numbers j h),
            parents-first t p q r w₁ l.order (λ j h. rw el (olds-known version ns cs ms ds is ps ss p q w₁ long numbers j h)),
          ),
        ),
      )

  -- sorted in w₂
  module _ (w₂ : List ℕ) (a : Result ℕ ℕ) (long₂ : length w₂ ≡ length w₁)
      (told : (u : Sections) (olds : List ℕ) → u.nodes ≡ ns → u.strings ≡ ss → u.version ≡ version → node_count u ≡ length ns / node_words version → Rooted u olds
      → OldsAt olds w₁ (length ns / node_words version) l.order → Indexes u olds l w₁ w₂ a) where
    indexes : Indexes t (numbering t) (layout_of t) w₁ w₂ a
    indexes =
        subst (λ (x : Layout). Indexes t (numbering t) x w₁ w₂ a) el
        (told t (numbering t) refl refl refl refl (rooted t p q r) (λ j h. rw el (olds-known version ns cs ms ds is ps ss p q w₁ long numbers j h)))

    pub clashing : (w : List ℕ) (m : ℕ) → a ≡ Err m → PlanOf t w (Err m)
    clashing w m e =
        let x = indexed-refused (paths_rule t) (length (by_path t (numbering t))) m (sym e ∙ indexes.answer) in
        plan_paths t q r w m x.0 x.1

    module _ (found : ℕ) (some : a ≡ Ok found) where
      sorted : Indexes t (numbering t) (layout_of t) w₁ w₂ (Ok found)
      sorted = subst (λ (x : Result ℕ ℕ). Indexes t (numbering t) (layout_of t) w₁ w₂ x) some indexes

      pub uses_asks : Collectable version ns ms ds is ps w₂ l.order l.at
      uses_asks = rw el (collect_asks version ns cs ms ds is ps ss p q w₁ long numbers r w₂ found long₂ sorted)

      -- collected in w₃
      module _ (w₃ : List ℕ) (texts : ℕ) (long₃ : length w₃ ≡ length w₂)
          (gathered : (kids strings : List ℕ) → Collected (draft_of version ns kids ms ds is ps strings) (words_from w₂ l.order (length ns / node_words version)) w₂ l.at w₃ texts) where
        collected : Collected t (words_from w₂ (layout_of t).order (node_count t)) w₂ (layout_of t).at w₃ texts
        collected = subst (λ (x : Layout). Collected t (words_from w₂ x.order (node_count t)) w₂ x.at w₃ texts) el (gathered cs ss)

        pub store_asks : ((texts + found + (texts + found) ≤ l.at) × Placed (with_texts l texts) (length w₃))
            × (((texts + texts ≤ l.paths) × (l.paths ≤ l.lengths)) × RisesFrom (by_key (key_in version ns ss (with_texts l texts) w₃)) texts (texts + found))
        store_asks =
            rw el (
              (
                store_room version ns cs ms ds is ps ss p q w₁ long numbers r w₂ found long₂ sorted w₃ texts long₃ collected,
                store_placed version ns cs ms ds is ps ss p q w₁ long numbers r w₂ found long₂ sorted w₃ texts long₃ collected,
              ),
              (
                store_tables version ns cs ms ds is ps ss p q w₁ long numbers r w₂ found long₂ sorted w₃ texts long₃ collected,
                store_rises version ns cs ms ds is ps ss p q w₁ long numbers r w₂ found long₂ sorted w₃ texts long₃ collected,
              ),
            )

        pub prepared : (w₄ : List ℕ) (m : Result (Layout × EntryCounts) ℕ) → StoredPlan (key_in version ns ss (with_texts l texts) w₃) (with_texts l texts) c found w₄ m → SameTexts ss l.at texts w₃ w₄ → PlanOf t w₄ m
        prepared w₄ m stored kept =
            planned version ns cs ms ds is ps ss p q w₁ long numbers r w₂ found long₂ sorted w₃ texts long₃ collected w₄
            (subst (λ (x : Layout). SameTexts ss x.at texts w₃ w₄) el kept) m
            (subst (λ (k : EntryCounts). StoredPlan (key_in version ns ss (with_texts (layout_of t) texts) w₃) (with_texts (layout_of t) texts) k found w₄ m) known.counts
            (subst (λ (x : Layout). StoredPlan (key_in version ns ss (with_texts x texts) w₃) (with_texts x texts) c found w₄ m) el stored))
