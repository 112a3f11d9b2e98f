-- A tree that is told without a walk from the root: every node but the root is an entry, and parents lead to the root.
use Rattle.std.specs.Prelude.{ℕ, ◌+◌, ◌≤◌, ◌<◌, ◌≡◌, ◌≢◌, ◌⊎◌, List, Bool, true, false, length, get_or}
use Rattle.image.specs.Sections.{Sections, node_count, child_count, named_count, parent_of, child_word, named_word, is_container}
use Rattle.records.specs.Records.{root_right}
use Rattle.tree.specs.Tree.{entries_rule}

-- ---- in plain words

-- node i is an ordered child, or the node of a named entry
pub data Listed (s : Sections) (i : ℕ) : Type 0 where
  child : (j : ℕ) → j < child_count s → child_word s j ≡ i → Listed s i
  named : (j : ℕ) → j < named_count s → named_word s j 2 ≡ i → Listed s i

-- parents lead from node i to node 0
pub data Rooted (s : Sections) : ℕ → Type 0 where
  root : Rooted s 0
  up : {i : ℕ} → Rooted s (parent_of s i) → Rooted s i

pub record Standing (s : Sections) : Type 0 where
  pub root : root_right s ≡ true
  pub entries : (i : ℕ) → i < node_count s → entries_rule s i ≡ 0
  pub listed : (i : ℕ) → 0 < i → i < node_count s → Listed s i
  -- of containers: every other node's parent is one
  pub rooted : (i : ℕ) → i < node_count s → is_container s i ≡ true → Rooted s i

-- ---- marks in the work words: 0 for none, 1 for a node that is listed, else the climb that has come to the node

-- the numbers f 0 .. f (n - 1) are marked 1, and no other word changes
pub record MarkedAmong (n : ℕ) (f : ℕ → ℕ) (w₀ w : List ℕ) : Type 0 where
  pub long : length w ≡ length w₀
  pub made : (j : ℕ) → j < n → get_or w (f j) 0 ≡ 1
  pub rest : (k : ℕ) → (get_or w k 0 ≡ get_or w₀ k 0) ⊎ ((j : ℕ) × (j < n) × (f j ≡ k))

-- every node that is not marked 1 is known to lead to the root
abbrev pub RootedMarks : Sections → List ℕ → Type 0
RootedMarks s w = (j : ℕ) → j < node_count s → get_or w j 0 ≢ 1 → Rooted s j

-- marks of climbs are at most n
abbrev pub MarksUpTo : Sections → ℕ → List ℕ → Type 0
MarksUpTo s n w = (j : ℕ) → j < node_count s → get_or w j 0 ≢ 1 → get_or w j 0 ≤ n

-- parents are nodes, the root's aside; a word for each node, that of the root is not 1; climbs have come from nodes before n, each with a mark
-- one above its node
pub record Climbable (s : Sections) (n : ℕ) (w : List ℕ) : Type 0 where
  pub some : 0 < node_count s
  pub parents : (i : ℕ) → i < node_count s → 0 < i → parent_of s i < node_count s
  pub enough : node_count s ≤ length w
  pub marks : RootedMarks s w
  pub earlier : MarksUpTo s n w
  pub root : get_or w 0 0 ≢ 1

-- a climb has come to node i, and words that were not 1 stay
pub record Climbed (i : ℕ) (w₀ w : List ℕ) : Type 0 where
  pub long : length w ≡ length w₀
  pub here : get_or w i 0 ≢ 1
  pub kept : (k : ℕ) → get_or w₀ k 0 ≢ 1 → get_or w k 0 ≡ get_or w₀ k 0

-- the answer of a climb from node i: true, and it is known that parents lead from there to the root, or false, and they do not
pub record ClimbAnswer (s : Sections) (i : ℕ) (w₀ w : List ℕ) (r : Bool) : Type 0 where
  pub rooted : r ≡ true → Climbable s (i + 1) w × Climbed i w₀ w
  pub circle : r ≡ false → Rooted s i → ⊥
