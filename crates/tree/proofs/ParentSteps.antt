-- Where the tree's rule passes, parent steps lead from every node to node 0, in fewer steps than there are nodes.
use Prim.Native.Nat.{ℕ, zero, suc, ◌≤◌, ◌<◌, suc-le-suc, zero-le}
use mathlib.Core.Path.{◌≡◌, refl, ap, ◌∙◌}
use mathlib.Core.List.{List, [], ◌∷◌}
use mathlib.Core.Bool.{true}
use native.Mathlib.Omega.{arith}
use native.Mathlib.Nat.{not-suc-le-zero, le_of_suc-le-suc, le_trans}
use lib.ListN.{length}
use Rattle.image.specs.Sections.{Sections, node_count, parent_of, is_container}
use Rattle.tree.specs.Tree.{child_at, named_at, entries_rule, entry_nodes, turns, load_walk, tree_rule}
use Rattle.tree.specs.Reach.{climb, Climbs, AllClimb}
use Rattle.laws.proofs.Members.{All, all_map, all_append, all_reverse, all_has, Distinct, pigeon}
use Rattle.tree.proofs.Walks.{Turns, walk-turns, walk-marks}
use Rattle.tree.proofs.Entries.{children-pass, named-pass, child-container, named-container, entry-each, entries-inside}
use Rattle.tree.proofs.PlainTree.{backwards, walk-passed, all_marked}

-- ---- steps

pub farther : {s : Sections} {i : ℕ} (a b : ℕ) → a ≤ b → Climbs s a i → Climbs s b i
farther a b h c = record { steps = c.steps; few = le_trans c.few h; arrives = c.arrives; containers = c.containers }

root-climbs : (s : Sections) → Climbs s 1 0
unfolding climb
root-climbs s = record { steps = 0; few = suc-le-suc zero-le; arrives = refl; containers = λ k h. absurd (not-suc-le-zero h) }

-- one step more, from a node whose parent is a container
from-parent : (s : Sections) (d i x : ℕ) → parent_of s x ≡ i → is_container s i ≡ true → Climbs s d i → Climbs s (suc d) x
unfolding climb
from-parent s d i x p q c =
    record {
      steps = suc c.steps;
      few = suc-le-suc c.few;
      arrives = ap (climb s c.steps) p ∙ c.arrives;
      containers = through;
    }
  where
    through : (k : ℕ) → k < suc c.steps → is_container s (climb s (suc k) x) ≡ true
    through zero h = ap (is_container s) p ∙ q
    through (suc k) h = ap (λ (y : ℕ). is_container s (climb s (suc k) y)) p ∙ c.containers k (le_of_suc-le-suc h)

-- ---- the walk: a marked node climbs in fewer steps than there are marks

module _ (s : Sections) where
  entries-climb : (d i : ℕ) → entries_rule s i ≡ 0 → Climbs s d i → All (Climbs s (suc d)) (backwards s i)
  entries-climb d i p c =
      all_reverse (Climbs s (suc d)) (entry_nodes s i)
      (entry-each s i (Climbs s (suc d))
      (λ j h. from-parent s d i (child_at s i j) (children-pass s i p j h).parent (child-container s i j h) c)
      (λ j h. from-parent s d i (named_at s i j 2) (named-pass s i p j h).parent (named-container s i j h) c))

  all_farther : (d : ℕ) (xs : List ℕ) → All (Climbs s d) xs → All (Climbs s (suc d)) xs
  all_farther d xs a = all_map xs (λ x c. farther d (suc d) (omega arith) c) a

  climbing : Turns (entries_rule s) (backwards s) (λ n marks due. All (Climbs s (length marks)) marks × All (Climbs s (suc (length marks))) due)
      (λ w. w.refusal ≡ 0 → All (Climbs s (length w.seen)) w.seen)
  climbing = record {
    over = λ marks due a p. a.0;
    done = λ n marks a p. a.0;
    skip = λ n i marks due a e. (a.0, a.1.1);
    enter = λ n i marks due a e p. (
      (a.1.0, all_farther (length marks) marks a.0),
      all_append (Climbs s (suc (suc (length marks)))) (backwards s i) due (entries-climb (suc (length marks)) i p a.1.0)
          (all_farther (suc (length marks)) due a.1.1),
    );
    refuse = λ n i r marks due a e p z. absurd (omega arith);
  }

  -- ---- the marks

  pub record Marks : Type 0 where
    pub distinct : Distinct (load_walk s).seen
    pub inside : All (λ i. i < node_count s) (load_walk s).seen

  pub marks-right : 0 < node_count s → (load_walk s).refusal ≡ 0 → Marks
  unfolding load_walk
  marks-right h p =
      let m = walk-marks (entries_rule s) (backwards s) (λ i. i < node_count s)
      (λ i k e. all_reverse (λ x. x < node_count s) (entry_nodes s i) (entries-inside s i e)) (turns s) (0 ∷ []) (h, tt) p in
      record { distinct = m.0; inside = all_map (load_walk s).seen (λ i k. k.0) m.1 }

  pub tree-climbs : 0 < node_count s → tree_rule s ≡ 0 → AllClimb s
  unfolding load_walk
  tree-climbs h p i k =
      let q = walk-passed s p in
      let m = marks-right h q in
      let a = walk-turns (entries_rule s) (backwards s) climbing (turns s) [] (0 ∷ []) (tt, (root-climbs s, tt)) q in
      farther (length (load_walk s).seen) (node_count s) (pigeon (node_count s) (load_walk s).seen m.distinct m.inside)
      (all_has (Climbs s (length (load_walk s).seen)) i (load_walk s).seen (all_marked s p i k) a)
