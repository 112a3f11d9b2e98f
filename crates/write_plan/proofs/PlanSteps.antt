-- From step to step of the plan: what each step asks, and what all of them come to.
use Rattle.std.specs.Prelude.{Err, Ok, Result, ℕ}
use Prim.Native.Nat.{ℕ, zero, suc, ◌+◌, ◌*◌, ◌-◌, ◌≤◌, ◌<◌}
use mathlib.Core.Path.{◌≡◌, refl, sym, ap, ◌∙◌}
use mathlib.Core.Logic.{inl, inr}
use mathlib.Core.List.{List, [], ◌++◌}
use mathlib.Core.Bool.{Bool, true, false}
use native.Mathlib.Omega.{arith}
use lib.ListN.{length, get_or, drop, length-drop}
use lib.Seq.{get_or-take, get_or-drop, length-take-le, ext_get_or}
use lib.Dec.{leb}
use borrow.Author.Tests.{le-leb, lt-leb, ne_eqb}
use Rattle.texts.specs.Text.{by_key}
use Rattle.laws.specs.Refusal.{unless, ◌▸◌}
use Rattle.laws.specs.Counted.{sum_of}
use Rattle.laws.proofs.First.{first, second, pass, fail}
use Rattle.words.specs.Words.{NONE}
use Rattle.image.specs.Sections.{Sections, node_count, node_word}
use Rattle.image.specs.Counted.{counts_with}
use Rattle.records.specs.Records.{list_word, container_of}
use Rattle.tree.specs.Tree.{read_walk, all_seen}
use Rattle.tree.specs.Work.{tree_words}
use Rattle.tree.specs.Parts.{Fit}
use Rattle.tree.proofs.Numbers.{get_below}
use Rattle.draft.specs.declared.layout.Layout.{Layout}
use Rattle.draft.specs.Needs.{draft_counts}
use Rattle.draft.specs.Draft.{tables_rule, write_words, reach_rule, shape_rule, paths_rule}
use Rattle.draft.specs.Source.{draft_of, nodes_only}
use Rattle.draft.specs.Numbering.{numbering, old_of}
use Rattle.draft.proofs.Rules.{tables, tables_fit}
use Rattle.draft_image.specs.Strings.{uses, by_path, stored_texts, distinct, offset_of}
use Rattle.draft_image.specs.Ready.{OldsAt, NewsAt, text_uses}
use Rattle.write_numbering.specs.Work.{tree_of, Leads, Numbered}
use Rattle.write_numbering.proofs.WholeDraft.{whole-seen, fit_tree, leads_tree, numbered-whole}
use Rattle.write_text_uses.specs.Uses.{use_words, uses_most, words_from, with_words, Readable, Collectable, Collected, stored_bytes, image_counts}
use Rattle.write_text_uses.proofs.Fits.{uses-length, readable}
use Rattle.write_text_uses.proofs.Bounds.{uses-bound, olds-below}
use Rattle.write_text_uses.proofs.AllUses.{uses_are}
use Rattle.write_text_keys.specs.Keys.{key_of, key_in, long_of}
use Rattle.write_interning.specs.Uses.{stored_of, texts_joined, Offsets, RisesFrom}
use Rattle.write_paths.specs.Arranged.{indexed_of, Indexes}
use Rattle.image.specs.declared.EntryCounts.{EntryCounts}
use Rattle.write_plan.specs.Shared.{SameTexts}
use Rattle.write_plan.specs.Planned.{layout_of, layout_with, planned_layout, plan_rule, Prepared, PlanOf, StoredPlan}
use Rattle.write_plan.proofs.SharedTexts.{table_same, long_same, key_same}
use Rattle.write_sorting.proofs.MergeInPlace.{get_d-later}
use Rattle.write_plan.proofs.Premises.{once}
use Rattle.write_plan.proofs.UseTexts.{texts-same, uses-long, tables_put, put_behind, boxes-long, boxes', longs', key_use, paths-rise}

-- ---- refusals on the way

module _ (s : Sections) where
  pub plan_unreached : (w : List ℕ) → all_seen s (read_walk s).seen ≡ false → PlanOf s w (Err 20)
  unfolding plan_rule reach_rule
  plan_unreached w e = (first _ _ 19 (fail _ 20 e), λ q. omega arith)

  pub reach-passes : all_seen s (read_walk s).seen ≡ true → reach_rule s ≡ 0
  unfolding reach_rule
  reach-passes e = pass _ 20 e

  module _ (q : reach_rule s ≡ 0) where
    pub plan_shape : (w : List ℕ) (k : ℕ) → k ≡ shape_rule s → (k ≡ 0 → ⊥) → PlanOf s w (Err k)
    unfolding plan_rule
    plan_shape w zero e d = absurd (d refl)
    plan_shape w (suc k) e d = (second _ _ q ∙ first _ _ k (sym e), d)

    module _ (r : shape_rule s ≡ 0) where
      pub plan_paths : (w : List ℕ) (k : ℕ) → paths_rule s ≡ k → (k ≡ 0 → ⊥) → PlanOf s w (Err k)
      unfolding plan_rule
      plan_paths w zero e d = absurd (d refl)
      plan_paths w (suc k) e d = (second _ _ q ∙ second _ _ r ∙ first _ _ k e, d)

      plan_rest : paths_rule s ≡ 0
          → plan_rule s ≡ (unless (leb (length (uses s (numbering s))) NONE) 23 ▸ unless (leb (length (stored_bytes s)) NONE) 23)
      unfolding plan_rule
      plan_rest e = second _ _ q ∙ second _ _ r ∙ second _ _ e

-- ---- what sorting the paths answers

tag : Result ℕ ℕ → ℕ
tag (Ok n) = 0
tag (Err k) = 1

number : Result ℕ ℕ → ℕ
number (Ok n) = n
number (Err k) = k

pub indexed-paths : (r n m : ℕ) → Ok m ≡ indexed_of r n → (r ≡ 0) × (m ≡ n)
unfolding indexed_of tag number
indexed-paths zero n m e = (refl, ap {B = ℕ} number e)
indexed-paths (suc r) n m e =
    let z : ◌≡◌ {A = ℕ} 0 1 = ap {B = ℕ} tag (rw (ne_eqb (suc r) 0 (λ q. omega arith)) at e) in
    absurd (omega arith)

pub indexed-refused : (r n k : ℕ) → Err k ≡ indexed_of r n → (r ≡ k) × (k ≡ 0 → ⊥)
unfolding indexed_of tag number
indexed-refused zero n k e = let z : ◌≡◌ {A = ℕ} 1 0 = ap {B = ℕ} tag e in absurd (omega arith)
indexed-refused (suc r) n k e =
    let q : k ≡ suc r = ap {B = ℕ} number (rw (ne_eqb (suc r) 0 (λ z. omega arith)) at e) in
    (sym q, λ z. omega arith)

-- ---- what each step asks

-- a layout with so many texts
abbrev pub with_texts : Layout → ℕ → Layout
with_texts l texts =
    record { at = l.at; texts = texts; paths = l.paths; lengths = l.lengths; order = l.order; new = l.new; offsets = l.offsets }

nodes-readable : (version : ℕ) (ns cs ms ds is ps ss order : List ℕ) → Readable (draft_of version ns cs ms ds is ps ss) order → Readable (nodes_only version ns ps) order
unfolding node_word list_word
nodes-readable version ns cs ms ds is ps ss order k = record { olds = k.olds; lists = k.lists }

module _ (version : ℕ) (ns cs ms ds is ps ss : List ℕ) (p : tables_rule (draft_of version ns cs ms ds is ps ss) ≡ 0) where
  abbrev s : Sections
  s = draft_of version ns cs ms ds is ps ss

  abbrev n : ℕ
  n = node_count s

  pub number_fit : Fit (tree_of version ns cs ms)
  number_fit = fit_tree version ns cs ms ds is ps ss (tables_fit s (tables s p))

  pub number-leads : Leads (tree_of version ns cs ms)
  number-leads = leads_tree version ns cs ms ds is ps ss (record { child = (tables s p).children; named = (tables s p).named-nodes })

  pub number_low : tree_words (tree_of version ns cs ms) ≤ (layout_of s).order
  number_low = omega (arith, (tables s p).some)

  pub number-room : (layout_of s).order + 2 * n ≤ write_words s
  number-room = omega arith

  pub seen-whole : (b : Bool) → b ≡ all_seen (tree_of version ns cs ms) (read_walk (tree_of version ns cs ms)).seen → b ≡ all_seen s (read_walk s).seen
  seen-whole b e = e ∙ whole-seen version ns cs ms ds is ps ss

  -- the tables lie behind the sorted words, one after the other, and before the numbers
  pub record Laid : Type 0 where
    pub sort : n + n ≤ (layout_of s).at
    pub lists : (layout_of s).paths + n ≤ (layout_of s).lengths
    pub sizes : (layout_of s).at + (layout_of s).lengths + n + n ≤ (layout_of s).order
    pub numbers : (layout_of s).order + n ≤ write_words s

  pub laid : Laid
  laid = record { sort = omega arith; lists = omega arith; sizes = omega arith; numbers = omega arith }

  module _ (q : reach_rule s ≡ 0) (w₁ : List ℕ) (long : length w₁ ≡ write_words s) (marks : Numbered (tree_of version ns cs ms) (layout_of s).order w₁) where
    numbers : Numbered s (layout_of s).order w₁
    numbers = numbered-whole version ns cs ms ds is ps ss (layout_of s).order w₁ marks

    pub few_nodes : n ≤ 4294967295
    few_nodes = numbers.few

    pub olds-known : OldsAt (numbering s) w₁ n (layout_of s).order
    olds-known = numbers.olds

    pub olds_in : (j : ℕ) → j < n → get_or w₁ ((layout_of s).order + j) 0 < n
    olds_in j h = rw (numbers.olds j h) (get_below (once s p q) j h)

    news-known : NewsAt (numbering s) w₁ n (layout_of s).new
    news-known i h =
        let e : (layout_of s).new + i ≡ (layout_of s).order + n + i = omega arith in
        ap (λ (k : ℕ). get_or w₁ k 0) e ∙ numbers.news i h

    -- the paths are sorted
    module _ (r : shape_rule s ≡ 0) (w₂ : List ℕ) (found : ℕ) (long₂ : length w₂ ≡ length w₁)
        (sorted : Indexes s (numbering s) (layout_of s) w₁ w₂ (Ok found)) where
      free : paths_rule s ≡ 0
      free = (indexed-paths (paths_rule s) (length (by_path s (numbering s))) found sorted.answer).0

      found_all : found ≡ length (by_path s (numbering s))
      found_all = (indexed-paths (paths_rule s) (length (by_path s (numbering s))) found sorted.answer).1

      -- the numbers are where they were
      late : (i : ℕ) → (layout_of s).order ≤ i → get_or w₂ i 0 ≡ get_or w₁ i 0
      late i h = get_d-later ((layout_of s).at + (layout_of s).lengths + n + n) i w₂ w₁ sorted.behind (omega (arith, laid.sizes))

      order-words : words_from w₂ (layout_of s).order n ≡ numbering s
      order-words =
          ext_get_or 0 (words_from w₂ (layout_of s).order n) (numbering s) (long_order ∙ sym (once s p q).len)
          (λ j h. let k : j < n = omega (arith, long_order) in
          get_or-take n (drop (layout_of s).order w₂) j 0 k ∙ get_or-drop (layout_of s).order w₂ j 0 ∙ late ((layout_of s).order + j) (omega arith) ∙ olds-known j k)
        where
          long_order : length (words_from w₂ (layout_of s).order n) ≡ n
          long_order =
              length-take-le n (drop (layout_of s).order w₂) (omega (arith, length-drop (layout_of s).order w₂, long, long₂, laid.numbers))

      bound : length (text_uses s (numbering s)) + found ≤ uses_most s
      bound = omega (arith, uses-bound s (numbering s) p (once s p q), found_all, boxes-count)
        where
          boxes-count : length (by_path s (numbering s)) ≡ sum_of n (container_of s)
          boxes-count = boxes-long s p q free

      uses-same : use_words (draft_of version ns [] ms ds is ps []) (numbering s) ≡ use_words s (numbering s)
      uses-same = uses_are version ns [] ms ds is ps [] (numbering s) ∙ sym (uses_are version ns cs ms ds is ps ss (numbering s))

      pub collect_asks : Collectable version ns ms ds is ps w₂ (layout_of s).order (layout_of s).at
      collect_asks =
          record {
            read = rw order-words read-nodes;
            numbers = omega (arith, laid.numbers, long, long₂);
            below = rw (order-words, uses-same) (omega (arith, uses-length s (numbering s), bound, laid.sizes));
          }
        where
          read-nodes : Readable (nodes_only version ns ps) (numbering s)
          read-nodes =
              let known = readable s (tables s p) (numbering s) (olds-below s (numbering s) p (once s p q)) in
              nodes-readable version ns cs ms ds is ps ss (numbering s) known

      -- the uses are collected
      module _ (w₃ : List ℕ) (texts : ℕ) (long₃ : length w₃ ≡ length w₂)
          (collected : Collected s (words_from w₂ (layout_of s).order n) w₂ (layout_of s).at w₃ texts) where
        texts_all : texts ≡ length (text_uses s (numbering s))
        texts_all = collected.count ∙ ap (λ (l : List ℕ). length (text_uses s l)) order-words

        tables_now : drop (layout_of s).at w₃ ≡ use_words s (numbering s) ++ drop (length (use_words s (numbering s))) (drop (layout_of s).at w₂)
        tables_now =
            ap (drop (layout_of s).at) (collected.is ∙ ap (λ (l : List ℕ). with_words w₂ (layout_of s).at (use_words s l)) order-words)
            ∙ tables_put w₂ (use_words s (numbering s)) (layout_of s).at (omega (arith, long, long₂, laid.sizes, laid.numbers))

        pub store_room : texts + found + (texts + found) ≤ (layout_of s).at
        store_room = omega (arith, bound, texts_all)

        text-room : 2 * length (text_uses s (numbering s)) ≤ (layout_of s).paths
        text-room = omega (arith, bound)

        pub store_tables : (texts + texts ≤ (layout_of s).paths) × ((layout_of s).paths ≤ (layout_of s).lengths)
        store_tables = (omega (arith, texts_all, text-room), omega (arith, laid.lists))

        pub store_placed : ((layout_of s).at + (layout_of s).paths ≤ length w₃) × ((layout_of s).at + (layout_of s).lengths ≤ length w₃)
        store_placed = (omega (arith, long, long₂, long₃, laid.lists, laid.sizes, laid.numbers), omega (arith, long, long₂, long₃, laid.sizes, laid.numbers))

        tab : List ℕ
        tab = drop (layout_of s).at w₂

        abbrev key : ℕ → List ℕ
        key = key_of version ns ss texts (layout_of s).paths (layout_of s).lengths (drop (layout_of s).at w₃)

        key_now : (a : ℕ) → a < texts + found → key a ≡ get_or (uses s (numbering s)) a []
        key_now a h =
            rw (texts_all, tables_now)
            (key_use s p q r free (layout_of s).paths (layout_of s).lengths text-room (omega arith) (drop (layout_of s).at w₂) (sorted.boxes free) (sorted.lengths free) a
            (omega (arith, texts_all, found_all)))

        pub store_rises : RisesFrom (by_key key) texts (texts + found)
        store_rises a l h =
            rw (texts_all, tables_now)
            (paths-rise s p q r free (layout_of s).paths (layout_of s).lengths text-room (omega arith) (drop (layout_of s).at w₂) (sorted.boxes free) (sorted.lengths free) a
            (omega (arith, texts_all)) (omega (arith, texts_all, found_all)))

        -- the texts are stored
        stored_same : stored_of key (texts + found) ≡ stored_texts s (numbering s)
        unfolding stored_of stored_texts
        stored_same =
            ap (distinct [])
            (texts-same (texts + found) key (uses s (numbering s)) (uses-long s ∙ omega (arith, texts_all, found_all)) key_now)

        module _ (w₄ : List ℕ) (kept : SameTexts ss (layout_of s).at texts w₃ w₄) where
          rest : plan_rule s ≡ (unless (leb (length (uses s (numbering s))) NONE) 23 ▸ unless (leb (length (stored_bytes s)) NONE) 23)
          rest = plan_rest s q r free

          many : length (uses s (numbering s)) ≡ texts + found
          many = uses-long s ∙ omega (arith, texts_all, found_all)

          bytes_same : length (texts_joined (stored_of key (texts + found))) ≡ length (stored_bytes s)
          bytes_same = ap (λ (l : List (List ℕ)). length (texts_joined l)) stored_same

          -- words of the numbers, in the end
          last : (i : ℕ) → (layout_of s).order ≤ i → get_or w₄ i 0 ≡ get_or w₁ i 0
          last i h =
              let e : (layout_of s).at + (i - (layout_of s).at) ≡ i = omega (arith, laid.sizes) in
              let there : (l : List ℕ) → get_or l i 0 ≡ get_or (drop (layout_of s).at l) (i - (layout_of s).at) 0 =
              λ l. sym (get_or-drop (layout_of s).at l (i - (layout_of s).at) 0 ∙ ap (λ (k : ℕ). get_or l k 0) e) in
              kept.behind i (omega (arith, texts_all, text-room, laid.lists, laid.sizes)) ∙ there w₃ ∙ ap (λ (l : List ℕ). get_or l (i - (layout_of s).at) 0) tables_now
              ∙ put_behind (use_words s (numbering s)) (drop (layout_of s).at w₂) (i - (layout_of s).at)
              (omega (arith, uses-length s (numbering s), bound, laid.sizes)) ∙ sym (there w₂) ∙ late i h

          front : texts + texts ≤ (layout_of s).paths
          front = omega (arith, texts_all, text-room)

          behind : (layout_of s).paths ≤ (layout_of s).lengths
          behind = omega (arith, laid.lists)

          laid_out_lem : layout_with (layout_of s) texts found ≡ planned_layout s
          laid_out_lem = λ j. layout_with (layout_of s) (texts_all j) (found_all j)

          counted : counts_with s found (length (texts_joined (stored_of key (texts + found)))) ≡ image_counts s
          counted = λ j. counts_with s (found_all j) (bytes_same j)

          prepared : Offsets key (texts + found) w₄ → Prepared s w₄
          prepared o =
              record {
                olds = λ j h. last ((layout_of s).order + j) (omega arith) ∙ olds-known j h;
                news = λ i h. last ((layout_of s).new + i) (omega arith) ∙ news-known i h;
                offsets =
                    λ k h.
                    let l : k < texts + found = omega (arith, many) in
                    ap (λ (x : Layout). get_or w₄ (x.offsets + k) 0) (sym laid_out_lem) ∙ o k l ∙ (λ j. offset_of (stored_same j) (key_now k l j));
                keys =
                    λ a h.
                    let l : a < texts + found = omega (arith, texts_all, found_all) in
                    ap (λ (x : Layout). key_in version ns ss x w₄ a) (sym laid_out_lem)
                    ∙ key_same ss (layout_of s).at texts (layout_of s).paths (layout_of s).lengths w₃ w₄ front behind kept version ns a ∙ key_now a l;
                boxes =
                    λ k h.
                    table_same ss (layout_of s).at texts (layout_of s).paths (layout_of s).lengths w₃ w₄ front behind kept ((layout_of s).paths + k) (omega (arith, front))
                    ∙ ap (λ (tab : List ℕ). get_or tab ((layout_of s).paths + k) 0) tables_now
                    ∙ boxes' s p q r free (layout_of s).paths (layout_of s).lengths text-room (omega arith) (drop (layout_of s).at w₂) (sorted.boxes free)
                    (sorted.lengths free) k h;
                lengths =
                    λ k h.
                    long_same ss (layout_of s).at texts (layout_of s).paths (layout_of s).lengths w₃ w₄ front behind kept (old_of (numbering s) (get_or (by_path s (numbering s)) k 0))
                    ∙ ap (λ (tab : List ℕ). long_of (layout_of s).lengths tab (old_of (numbering s) (get_or (by_path s (numbering s)) k 0))) tables_now
                    ∙ longs' s p q r free (layout_of s).paths (layout_of s).lengths text-room (omega arith) (drop (layout_of s).at w₂) (sorted.boxes free)
                    (sorted.lengths free) k h;
              }

          pub planned : (a : Result (Layout × EntryCounts) ℕ) → StoredPlan key (with_texts (layout_of s) texts) (draft_counts s) found w₄ a → PlanOf s w₄ a
          planned (Err k) (e, inl h) =
              (rest ∙ first _ _ 22 (fail _ 23 (lt-leb (length (uses s (numbering s))) NONE (omega (arith, many)))) ∙ sym e, λ z'. omega (arith, e))
          planned (Err k) (e, inr h) = (
            rest ∙ second _ _ (pass _ 23 (le-leb (length (uses s (numbering s))) NONE (omega (arith, many, h.0))))
                ∙ fail _ 23 (lt-leb (length (stored_bytes s)) NONE (omega (arith, bytes_same, h.1))) ∙ sym e,
            λ z'. omega (arith, e),
          )
          planned (Ok plan) h = (
            rest ∙ second _ _ (pass _ 23 (le-leb (length (uses s (numbering s))) NONE (omega (arith, many, h.2))))
                ∙ pass _ 23 (le-leb (length (stored_bytes s)) NONE (omega (arith, bytes_same, h.3))),
            h.0 ∙ laid_out_lem,
            h.1 ∙ counted,
            prepared h.4,
          )
