-- Parents that are to lead to the root, where every node but the root is marked.
use Rattle.std.specs.Prelude.{ℕ, ◌≤◌, ◌<◌, ◌≡◌, List, length, get_or}
use Rattle.image.specs.Sections.{Sections, node_count, parent_of}

-- parents are nodes, the root's aside; a word for each node, 1 but for the root's, which may be any
pub record AllMarked (s : Sections) (w : List ℕ) : Type 0 where
  pub some : 0 < node_count s
  pub parents : (i : ℕ) → i < node_count s → 0 < i → parent_of s i < node_count s
  pub enough : node_count s ≤ length w
  pub marked : (i : ℕ) → i < node_count s → 0 < i → get_or w i 0 ≡ 1
