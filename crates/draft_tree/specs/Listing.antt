-- What the search for nodes that are no entries needs, and what it tells.
use Rattle.std.specs.Prelude.{ℕ, ◌≤◌, ◌<◌, ◌≡◌, ◌↔◌, List, Bool, true, length, get_or}
use Rattle.image.specs.Sections.{Sections, node_count, child_count, named_count, child_word, named_word}
use Rattle.draft_tree.specs.Standing.{Listed}

-- a word for each node, and entries are nodes
pub record Markable (s : Sections) (w : List ℕ) : Type 0 where
  pub enough : node_count s ≤ length w
  pub children : (j : ℕ) → j < child_count s → child_word s j < node_count s
  pub named : (j : ℕ) → j < named_count s → named_word s j 2 < node_count s

-- a node is marked exactly if it is an entry, and the answer is true exactly if every node but the root is one
pub record AllListed (s : Sections) (w₀ w : List ℕ) (r : Bool) : Type 0 where
  pub long : length w ≡ length w₀
  pub marks : (i : ℕ) → i < node_count s → (get_or w i 0 ≡ 1) ↔ Listed s i
  pub answer : (r ≡ true) ↔ ((i : ℕ) → 0 < i → i < node_count s → Listed s i)
