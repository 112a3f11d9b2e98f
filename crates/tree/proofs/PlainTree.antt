-- The tree's rule in plain words, both ways: every node is reached by entries and all entries obey their rules. What follows for parent
-- steps and for the writer's walk.
use Prim.Native.Nat.{ℕ, ◌<◌}
use mathlib.Core.Path.{◌≡◌, refl, ap, ◌∙◌}
use mathlib.Core.List.{List, [], ◌∷◌, reverse}
use mathlib.Core.Bool.{true}
use native.Mathlib.Omega.{arith}
use lib.ListN.{length, length-reverse}
use Rattle.laws.specs.Lists.{has}
use Rattle.laws.proofs.First.{both, then, passed, pass}
use Rattle.laws.proofs.Flags.{all_at, all_of_lem}
use Rattle.image.specs.Sections.{Sections, node_count}
use Rattle.tree.specs.Tree.{entries_rule, entry_nodes, turns, load_walk, all_seen, tree_rule}
use Rattle.tree.specs.Reach.{Reached, root, child, named}
use Rattle.tree.specs.Parts.{EntriesOwned}
use Rattle.laws.proofs.Members.{All, all_reverse, all_has, has_reverse, sum_ext}
use Rattle.tree.proofs.Walks.{walk_keeps, walk-passes, walk-closed, Closed}
use Rattle.tree.proofs.Walks.{pending, pushed}
use Rattle.tree.proofs.Entries.{entry-each, child-entry, named-entry, entries-inside, entries-counted}

-- what the loader's walk pushes
abbrev pub backwards : Sections → ℕ → List ℕ
backwards s i = reverse (entry_nodes s i)

-- ---- from the rule to plain words

module _ (s : Sections) where
  -- a node of a passed tree
  pub record Right (i : ℕ) : Type 0 where
    pub reached : Reached s i
    pub entries : entries_rule s i ≡ 0

  reached-down : (i : ℕ) → Reached s i → All (Reached s) (entry_nodes s i)
  reached-down i r = entry-each s i (Reached s) (λ j h. child i j r h refl) (λ j h. named i j r h refl)

  -- every marked node
  pub marked-right : (load_walk s).refusal ≡ 0 → All Right (load_walk s).seen
  unfolding load_walk
  marked-right p =
      walk_keeps (entries_rule s) (backwards s) (Reached s) (All Right) (λ i r e. all_reverse (Reached s) (entry_nodes s i) (reached-down i r))
      (λ i marks r e z a. (record { reached = r; entries = z }, a)) (turns s) [] (0 ∷ []) tt (root, tt) p

  pub walk-passed : tree_rule s ≡ 0 → (load_walk s).refusal ≡ 0
  unfolding tree_rule
  walk-passed p = (both _ _ p).0

  pub all_marked : tree_rule s ≡ 0 → (i : ℕ) → i < node_count s → has i (load_walk s).seen ≡ true
  unfolding tree_rule all_seen
  all_marked p i h = all_at (node_count s) (λ j. has j (load_walk s).seen) (passed _ 14 (both (load_walk s).refusal _ p).1) i h

  pub tree-right : tree_rule s ≡ 0 → (i : ℕ) → i < node_count s → Right i
  tree-right p i h = all_has Right i (load_walk s).seen (all_marked p i h) (marked-right (walk-passed p))

  -- ---- and back

  module _ (c : EntriesOwned s) (entries : (i : ℕ) → i < node_count s → entries_rule s i ≡ 0) where
    down : (i : ℕ) → i < node_count s → All (λ x. x < node_count s) (backwards s i)
    down i h = all_reverse (λ x. x < node_count s) (entry_nodes s i) (entries-inside s i (entries i h))

    never-refused : (load_walk s).refusal ≡ 0
    unfolding load_walk
    never-refused = walk-passes (entries_rule s) (backwards s) (λ i. i < node_count s) entries down (turns s) [] (0 ∷ []) (c.some, tt)

    closed : Closed (node_count s) (entries_rule s) (backwards s) (0 ∷ []) (load_walk s).seen
    unfolding load_walk
    closed =
        walk-closed (node_count s) (entries_rule s) (backwards s) (λ i h e. down i h) (turns s) (0 ∷ []) (c.some, tt)
        (omega (
          arith,
          entries-counted s c,
          sum_ext (node_count s) (λ i. length (backwards s i)) (λ i. length (entry_nodes s i)) (λ i h. length-reverse (entry_nodes s i)),
        ))
        never-refused

    -- a reached node is marked
    marked : (x : ℕ) → Reached s x → has x (load_walk s).seen ≡ true
    unfolding has
    marked x root = closed 0 (pending refl)
    marked x (child i j r h e) =
        closed x (pushed i (marked i r) (has_reverse x (entry_nodes s i) ∙ ap (λ (y : ℕ). has y (entry_nodes s i)) e ∙ child-entry s i j h))
    marked x (named i j r h e) =
        closed x (pushed i (marked i r) (has_reverse x (entry_nodes s i) ∙ ap (λ (y : ℕ). has y (entry_nodes s i)) e ∙ named-entry s i j h))

    pub right-tree : ((i : ℕ) → i < node_count s → Reached s i) → tree_rule s ≡ 0
    unfolding tree_rule all_seen
    right-tree r = then _ _ never-refused (pass _ 15 (all_of_lem (node_count s) (λ i. has i (load_walk s).seen) (λ i h. marked i (r i h))))
