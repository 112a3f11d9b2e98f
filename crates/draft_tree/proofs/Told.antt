-- What the steps of the test need and tell of parts of a draft, said of the whole.
use Prim.Native.Nat.{ℕ, ◌≤◌, ◌<◌}
use mathlib.Core.Path.{◌≡◌, refl, sym, ◌∙◌}
use mathlib.Core.List.{List, []}
use mathlib.Core.Logic.{◌↔◌}
use mathlib.Core.Bool.{Bool, true, false, not, true≢false}
use native.Mathlib.Omega.{arith}
use borrow.Author.Tests.{eqb-true, eq-eqb, not-true, not-false}
use Rattle.laws.specs.Refusal.{passes, ◌▸◌, first_of}
use Rattle.laws.proofs.First.{first_all, first_of_lem}
use Rattle.words.specs.Words.{NONE}
use Rattle.image.specs.Sections.{Sections, node_count, node_word, child_word, named_word, definition_count, definition_word, item_word, is_container}
use Rattle.records.specs.Records.{root_right, number_of_children, number_of_named}
use Rattle.tree.specs.Tree.{child_rule, named_rule, entries_rule}
use Rattle.draft.specs.Source.{draft_of}
use Rattle.draft.specs.Draft.{reach_rule, order_rule, shape_rule}
use Rattle.draft.specs.Shown.{TablesPassed}
use Rattle.draft.proofs.Rules.{parent-node, child-node, named-node}
use Rattle.draft.proofs.PathTables.{PathTables, path-tables, path-passed}
use Rattle.draft_tree.specs.Standing.{Listed, child, named, Rooted}
use Rattle.draft_tree.specs.Listing.{Markable, AllListed}
use Rattle.draft_tree.specs.Climbing.{AllMarked}
use Rattle.draft_tree.specs.Testing.{Testable}
use Rattle.draft_tree.proofs.Climbs.{rooted-same}
use Rattle.draft_tree.proofs.RightTree.{stands_yes, stands_no, few_nodes}

module _ (v : ℕ) (ns cs ms ds is ps ts : List ℕ) where
  abbrev s : Sections
  s = draft_of v ns cs ms ds is ps ts

  abbrev tree : Sections
  tree = draft_of v ns cs ms [] [] [] ts

  abbrev entries : Sections
  entries = draft_of v ns cs ms [] [] [] []

  abbrev nodes : Sections
  nodes = draft_of v ns [] [] [] [] [] []

  abbrev lists : Sections
  lists = draft_of 0 [] [] [] ds is [] ts

  -- ---- what the steps need

  module _ (w₀ : List ℕ) (t : Testable s w₀) where
    abbrev tables : PathTables s t.paths
    tables = path-tables s t.paths t.passed

    pub asked : TablesPassed s
    asked = path-passed s t.paths t.passed

    pub markable : Markable entries w₀
    unfolding node_word child_word named_word
    markable =
        record {
          enough = t.enough;
          children = λ j h. (child-node s tables j h).below;
          named = λ j h. (named-node s tables j h).below;
        }

    pub all_marked : (w : List ℕ) (r : Bool) → AllListed entries w₀ w r → r ≡ true → AllMarked nodes w
    unfolding node_word
    all_marked w r a e =
        record {
          some = tables.some;
          parents = λ i h k. (parent-node s tables i h k).below;
          enough = omega (arith, t.enough, a.long);
          marked = λ i h k. (a.marks i h).1 (a.answer.0 e i k h);
        }

    -- ---- what they tell

    entries_are : first_of (node_count tree) (entries_rule tree) ≡ first_of (node_count s) (entries_rule s)
    unfolding entries_rule number_of_children number_of_named child_rule named_rule node_word child_word named_word
    entries_are = refl

    listed_are : (i : ℕ) → Listed entries i → Listed s i
    unfolding child_word named_word
    listed_are i (child j h e) = child j h e
    listed_are i (named j h e) = named j h e

    listed_so : (i : ℕ) → Listed s i → Listed entries i
    unfolding child_word named_word
    listed_so i (child j h e) = child j h e
    listed_so i (named j h e) = named j h e

    container_is : (i : ℕ) → is_container s i ≡ is_container nodes i
    unfolding node_word
    container_is i = refl

    orders_are : first_of (definition_count lists) (order_rule lists) ≡ first_of (definition_count s) (order_rule s)
    unfolding order_rule definition_word item_word
    orders_are = refl

    abbrev answer : Bool
    answer = passes (reach_rule s ▸ shape_rule s)

    pub root-wrong : (b : Bool) → b ≡ root_right s → not b ≡ true → false ≡ answer
    root-wrong b e q = stands_no s tables (λ told. true≢false (sym (e ∙ told.standing.root) ∙ not-true b q))

    pub entries-wrong : (b : Bool) → b ≡ passes (first_of (node_count tree) (entries_rule tree)) → not b ≡ true → false ≡ answer
    entries-wrong b e q =
        stands_no s tables (λ told. true≢false (sym (e ∙ eq-eqb _ 0 (entries_are ∙ first_of_lem (node_count s) _ told.standing.entries)) ∙ not-true b q))

    pub orders-wrong : (k : ℕ) → k ≡ first_of (definition_count lists) (order_rule lists) → (k ≡ 0 → ⊥) → false ≡ answer
    orders-wrong k e d = stands_no s tables (λ told. d (e ∙ orders_are ∙ told.orders))

    module _ (w : List ℕ) (r : Bool) (a : AllListed entries w₀ w r) where
      pub some-unlisted : not r ≡ true → false ≡ answer
      some-unlisted q = stands_no s tables (λ told. true≢false (sym (a.answer.1 (λ i k h. listed_so i (told.standing.listed i k h))) ∙ not-true r q))

      module _ (b : Bool) (e : b ≡ root_right s) (q : not b ≡ false) (c : Bool) (f : c ≡ passes (first_of (node_count tree) (entries_rule tree))) (g : not c ≡ false) (k : ℕ)
          (o : k ≡ first_of (definition_count lists) (order_rule lists)) (z : k ≡ 0) (l : not r ≡ false) where
        all_listed : (i : ℕ) → 0 < i → i < node_count s → Listed s i
        all_listed i h n = listed_are i (a.answer.0 (not-false r l) i h n)

        pub rooted-decides : (y : Bool) → ((y ≡ true) ↔ ((node_count nodes ≤ NONE) × ((i : ℕ) → i < node_count nodes → is_container nodes i ≡ true → Rooted nodes i))) → y ≡ answer
        rooted-decides true t' =
            stands_yes s tables record {
              standing =
                  record {
                    root = sym e ∙ not-false b q;
                    entries = first_all (node_count s) (entries_rule s) (sym entries_are ∙ eqb-true _ 0 (sym f ∙ not-false c g));
                    listed = all_listed;
                    rooted = λ i h n. rooted-same nodes s refl refl i ((t'.0 refl).1 i h (sym (container_is i) ∙ n));
                  };
              orders = sym orders_are ∙ sym o ∙ z;
            }
        rooted-decides false t' =
            stands_no s tables (λ told. true≢false (sym (t'.1 (few_nodes s tables all_listed, λ i h n. rooted-same s nodes refl refl i (told.standing.rooted i h (container_is i ∙ n))))))
