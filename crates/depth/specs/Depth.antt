-- The depth of a node: how many parent steps lead from it to node 0.
use Rattle.std.specs.Prelude.{ℕ, zero, suc, ◌≤◌, ◌<◌, ◌≡◌, true, cond, eqb, None, Option, Some}
use Rattle.image.specs.Refusals.{not_found}
use Rattle.image.specs.Sections.{Sections, node_count, parent_of, inside, sections}
use Rattle.tree.specs.Reach.{climb}
use Rattle.views.specs.Answers.{given, refused, of_count}

abbrev pub one_more : Option ℕ → Option ℕ
one_more (Some n) = Some (suc n)
one_more None = None

-- node 0 has depth 0, any other node one more than its parent; nothing for a number that is no node. At most n nodes are looked at.
unfoldable pub depth_from : ℕ → Sections → ℕ → Option ℕ
depth_from zero s i = None
depth_from (suc n) s i =
    let above = depth_from n s (parent_of s i) in
    cond (inside s i) (cond (eqb i 0) (Some 0) (one_more above)) None

-- parents that reach node 0 lead to no node twice, so as many as there are suffice
unfoldable pub depth_of : Sections → ℕ → Option ℕ
depth_of s i = depth_from (node_count s) s i

-- ---- the plain reading

-- exactly d parent steps lead from node i to node 0: the d-th arrives there and none before it does, from node to node
pub record StepsToRoot (s : Sections) (i d : ℕ) : Type 0 where
  pub arrives : climb s d i ≡ 0
  pub before : (k : ℕ) → k < d → climb s k i ≡ 0 → ⊥
  pub nodes : (k : ℕ) → k ≤ d → inside s (climb s k i) ≡ true

-- whatever the sections: d is answered exactly if so many steps lead to node 0, which are then fewer than the nodes; and the answer is 18
-- exactly if no number of steps does
pub record DepthExact (s : Sections) (i : ℕ) : Type 0 where
  pub answered : (d : ℕ) → of_count (depth_of s i) ≡ given d → StepsToRoot s i d
  pub counted : (d : ℕ) → StepsToRoot s i d → of_count (depth_of s i) ≡ given d
  pub few : (d : ℕ) → StepsToRoot s i d → d < node_count s
  pub missed : (of_count (depth_of s i)).number ≡ not_found → (d : ℕ) → StepsToRoot s i d → ⊥
  pub missing : ((d : ℕ) → StepsToRoot s i d → ⊥) → of_count (depth_of s i) ≡ refused not_found

-- names on an `unfolding` line what a computation with this module needs
unfoldable pub depths : Unit {0}
unfolding depth_from depth_of sections
depths = tt
