-- The call's number, test by test in the order of the code, and what is left in nodes and work words.
use Rattle.std.specs.Prelude.{None, Option, Some, ℕ}
use Prim.Native.Nat.{ℕ, zero, suc, ◌/◌, ◌≤◌, ◌<◌}
use mathlib.Core.Path.{◌≡◌, refl, sym, ap, ◌∙◌}
use mathlib.Core.List.{List, ◌++◌}
use mathlib.Core.Bool.{Bool, true, false, cond}
use native.Mathlib.Omega.{arith}
use lib.ListN.{length, drop, replicate}
use lib.Dec.{leb}
use borrow.Author.Tests.{le-leb, lt-leb, ne_eqb}
use Rattle.laws.specs.Refusal.{unless, counts_as, ◌▸◌, first_of}
use Rattle.laws.proofs.First.{first, second, pass, fail}
use Rattle.laws.proofs.Chains.{refused}
use Rattle.image.specs.Header.{ink_right}
use Rattle.image.specs.Sections.{Sections, node_count, tag_of}
use Rattle.draft.specs.Draft.{draft_child_rule, draft_named_rule, draft_definition_rule, draft_item_rule, write_words, reach_rule, shape_rule}
use Rattle.draft.specs.PathList.{path_of, list_right, follows, path_node_rule, path_tables_rule}
use Rattle.draft_image.specs.Encode.{untouched, encode_work_after}
use Rattle.draft_image.proofs.Numbers.{of_test, of_count_lem, of_both, of_first, reach_clears, shape_clears, both-clear}
use Rattle.walks.specs.Walk.{component_words}
use Rattle.static_targets.specs.Late.{late_rule, Late}
use Rattle.target_finding.specs.Targets.{PathList, path_list_rule, path_end, ends_in_index, needs_container, end_rule, entry_rule, target_rule, resolve_rule, resolved_nodes, nodes_after}

-- ---- which numbers the rules give

-- row 19 leaves the work words
pub path-tables_leave : (s : Sections) (entries : List ℕ) → (path_tables_rule s entries ≡ 0 → ⊥) → untouched (path_tables_rule s entries) ≡ true
unfolding path_tables_rule path_node_rule draft_child_rule draft_named_rule draft_definition_rule draft_item_rule
path-tables_leave s entries =
    two _ _ (test _)
    (two _ _ (all _ _ (λ i. two _ _ (count _) (test _)))
    (two _ _ (test _)
    (two _ _ (all _ _ (λ i. test _))
    (two _ _ (all _ _ (λ i. two _ _ (test _) (test _)))
    (two _ _ (all _ _ (λ i. two _ _ (test _) (test _))) (two _ _ (test _) (all _ _ (λ i. test _))))))))
  where
    Leaves : ℕ → Type 0
    Leaves r = (r ≡ 0 → ⊥) → untouched r ≡ true

    nothing : Leaves 0
    nothing d = absurd (d refl)

    test : (t : Bool) → Leaves (unless t 19)
    test t = of_test Leaves 19 nothing (λ d. refl) t

    count : (r : ℕ) → Leaves (counts_as 19 r)
    count r = of_count_lem Leaves 19 nothing (λ d. refl) r

    two : (a b : ℕ) → Leaves a → Leaves b → Leaves (a ▸ b)
    two a b p q = of_both Leaves a b p q

    all : (n : ℕ) (f : ℕ → ℕ) → ((i : ℕ) → Leaves (f i)) → Leaves (first_of n f)
    all n f p = of_first Leaves nothing n f p

-- 25 and 26 clear them
target_clears : (s : Sections) (p : PathList) (i : ℕ) → untouched (target_rule s p i) ≡ false
unfolding target_rule
target_clears s p i = by_follows (follows s p.entries i)
  where
    by_end : (due : Bool) (x : Option ℕ) → untouched (end_rule s due x) ≡ false
    by_end due None = refl
    by_end due (Some n) = of_test (λ r. untouched r ≡ false) 26 refl refl _

    by_entry : (x : Option ℕ) → untouched (entry_rule s p i x) ≡ false
    by_entry None = refl
    by_entry (Some k) = by_end (needs_container (tag_of s i) (ends_in_index p k)) (path_end s p i k)

    by_follows : (b : Bool) → untouched (cond b (entry_rule s p i (path_of p.entries i)) 0) ≡ false
    by_follows true = by_entry (path_of p.entries i)
    by_follows false = refl

targets-clear : (s : Sections) (p : PathList) → untouched (first_of (node_count s) (target_rule s p)) ≡ false
targets-clear s p = of_first (λ r. untouched r ≡ false) refl (node_count s) (target_rule s p) (target_clears s p)

-- ---- the whole

-- the clauses of the contract
pub record Resolves (ink : ℕ) (s : Sections) (p : PathList) (work₀ nodes work : List ℕ) (r : ℕ) : Type 0 where
  pub answer : r ≡ resolve_rule ink s p (length work₀)
  pub draft : nodes ≡ nodes_after (resolve_rule ink s p (length work₀)) s p
  pub words : work ≡ encode_work_after (write_words s) (resolve_rule ink s p (length work₀)) work₀

pub ended : (ink : ℕ) (s : Sections) (p : PathList) (work₀ nodes work : List ℕ) (r : ℕ) → Resolves ink s p work₀ nodes work r
    → (r ≡ resolve_rule ink s p (length work₀))
    × ((nodes ≡ nodes_after (resolve_rule ink s p (length work₀)) s p) × (work ≡ encode_work_after (write_words s) (resolve_rule ink s p (length work₀)) work₀))
ended ink s p work₀ nodes work r x = (x.answer, (x.draft, x.words))

-- the list's test, where the code has the count of nodes as a number
pub list_is : (count n m : ℕ) (entries : List ℕ) (a b : Bool) → count ≡ n → a ≡ list_right count m entries → a ≡ b → list_right n m entries ≡ b
list_is count n m entries a b e q h = ap (λ (k : ℕ). list_right k m entries) (sym e) ∙ sym q ∙ h

module _ (ink : ℕ) (s : Sections) (p : PathList) (work₀ : List ℕ) where
  abbrev rule : ℕ
  rule = resolve_rule ink s p (length work₀)

  -- a refusal that leaves all
  early : (k : ℕ) → rule ≡ k → (k ≡ 0 → ⊥) → untouched k ≡ true → Resolves ink s p work₀ s.nodes work₀ k
  unfolding nodes_after encode_work_after
  early k e d u = record { answer = sym e; draft = rw (e, ne_eqb k 0 d) refl; words = rw (e, u) refl }

  pub ink_refused : ink_right ink ≡ false → Resolves ink s p work₀ s.nodes work₀ 3
  unfolding resolve_rule
  ink_refused h = early 3 (first _ _ 2 (fail (ink_right ink) 3 h)) (λ q. omega arith) refl

  module _ (i : ink_right ink ≡ true) where
    after_ink : rule ≡ (path_list_rule s p ▸ path_tables_rule s p.entries ▸ unless (leb (write_words s) (length work₀)) 7 ▸ late_rule s p)
    unfolding resolve_rule
    after_ink = second _ _ (pass (ink_right ink) 3 i)

    pub list-refused : list_right (node_count s) (length p.components / component_words) p.entries ≡ false → Resolves ink s p work₀ s.nodes work₀ 19
    unfolding path_list_rule
    list-refused h = early 19 (after_ink ∙ first _ _ 18 (fail _ 19 h)) (λ q. omega arith) refl

    module _ (l : list_right (node_count s) (length p.components / component_words) p.entries ≡ true) where
      after_list : rule ≡ (path_tables_rule s p.entries ▸ unless (leb (write_words s) (length work₀)) 7 ▸ late_rule s p)
      unfolding path_list_rule
      after_list = after_ink ∙ second _ _ (pass _ 19 l)

      pub tables-refused : (k : ℕ) → k ≡ path_tables_rule s p.entries → (k ≡ 0 → ⊥) → Resolves ink s p work₀ s.nodes work₀ k
      tables-refused k e d =
          early k (after_list ∙ sym (refused (path_tables_rule s p.entries) _ k e d)) d (ap untouched e ∙ path-tables_leave s p.entries (λ q. d (e ∙ q)))

      module _ (t : path_tables_rule s p.entries ≡ 0) where
        after-tables : rule ≡ (unless (leb (write_words s) (length work₀)) 7 ▸ late_rule s p)
        after-tables = after_list ∙ second _ _ t

        pub words-refused : length work₀ < write_words s → Resolves ink s p work₀ s.nodes work₀ 7
        words-refused h = early 7 (after-tables ∙ first _ _ 6 (fail _ 7 (lt-leb (write_words s) (length work₀) h))) (λ q. omega arith) refl

        -- the work words are cleared, whatever is answered from here on
        pub late-answered : write_words s ≤ length work₀ → (nodes : List ℕ) (r : ℕ) → Late s p nodes r
            → (work : List ℕ) → work ≡ replicate (write_words s) 0 ++ drop (write_words s) work₀ → Resolves ink s p work₀ nodes work r
        unfolding encode_work_after
        late-answered h nodes r x work w =
            let after-words : rule ≡ late_rule s p = after-tables ∙ second _ _ (pass _ 7 (le-leb (write_words s) (length work₀) h)) in
            let same : rule ≡ r = after-words ∙ sym x.answer in
            let clears : untouched rule ≡ false = ap untouched after-words ∙ both-clear _ _ (reach_clears s) (both-clear _ _ (shape_clears s) (targets-clear s p)) in
            record { answer = sym same; draft = rw same x.draft; words = rw clears w }

-- ---- with the work words

first_two : (a b c k : ℕ) → k ≡ (a ▸ b) → (k ≡ 0 → ⊥) → k ≡ (a ▸ b ▸ c)
unfolding ◌▸◌
first_two zero b c k e d = refused b c k e d
first_two (suc a) b c k e d = e

module _ (s : Sections) (p : PathList) where
  refuses : (r : ℕ) → (r ≡ 0 → ⊥) → r ≡ late_rule s p → Late s p s.nodes r
  unfolding nodes_after
  refuses r d e = record { answer = e; draft = rw (ne_eqb r 0 d) refl }

  pub late-tree : (k : ℕ) → k ≡ (reach_rule s ▸ shape_rule s) → (k ≡ 0 → ⊥) → Late s p s.nodes k
  late-tree k e d = refuses k d (first_two (reach_rule s) (shape_rule s) _ k e d)

  module _ (reach : reach_rule s ≡ 0) where
    module _ (shape : shape_rule s ≡ 0) where
      after-shape : late_rule s p ≡ first_of (node_count s) (target_rule s p)
      after-shape = second _ _ reach ∙ second _ _ shape

      pub late-target : (k : ℕ) → k ≡ first_of (node_count s) (target_rule s p) → (k ≡ 0 → ⊥) → Late s p s.nodes k
      late-target k e d = refuses k d (e ∙ sym after-shape)

      pub late-done : 0 ≡ first_of (node_count s) (target_rule s p) → (nodes : List ℕ) → nodes ≡ resolved_nodes s p → Late s p nodes 0
      unfolding nodes_after
      late-done e nodes n = record { answer = e ∙ sym after-shape; draft = n }
