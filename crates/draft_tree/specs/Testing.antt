-- What the test of a draft's tree needs, and what a tree and definitions are that pass it.
use Rattle.std.specs.Prelude.{ℕ, ◌≤◌, ◌≡◌, List, length}
use Rattle.laws.specs.Refusal.{first_of}
use Rattle.image.specs.Sections.{Sections, node_count, definition_count}
use Rattle.draft.specs.Draft.{order_rule}
use Rattle.draft.specs.PathList.{path_tables_rule}
use Rattle.draft_tree.specs.Standing.{Standing}

-- row 19 has passed, with some list of paths, and there is a word for each node
pub record Testable (s : Sections) (w : List ℕ) : Type 0 where
  pub paths : List ℕ
  pub passed : path_tables_rule s paths ≡ 0
  pub enough : node_count s ≤ length w

-- the draft stands in a tree, and its definitions are in order
pub record Told (s : Sections) : Type 0 where
  pub standing : Standing s
  pub orders : first_of (definition_count s) (order_rule s) ≡ 0
