-- The list of containers measured and sorted by path, as the code leaves it in the work words; what the caller knows and learns.
use Rattle.std.specs.Prelude.{ℕ, ◌+◌, ◌*◌, ◌≤◌, ◌<◌, ◌≡◌, List, Bool, true, cond, length, get_or, take, drop, eqb, Err, Ok, Result}
use Rattle.laws.specs.Counted.{all_of}
use Rattle.laws.specs.Sorted.{isort}
use Rattle.texts.specs.Text.{rising, by_key}
use Rattle.image.specs.Sections.{Sections, node_words, node_count, f, is_container, good_optional}
use Rattle.tree.specs.Reach.{AllClimb}
use Rattle.draft.specs.Draft.{paths_rule}
use Rattle.draft.specs.Numbering.{old_of}
use Rattle.draft_image.specs.Strings.{by_path, path_of}
use Rattle.write_sorting.specs.Sorted.{up_from}
use Rattle.write_text_keys.specs.Keys.{long_of}
use Rattle.draft.specs.declared.layout.Layout.{Layout}
use Rattle.write_paths.specs.Listed.{Permutation}

-- ---- measuring

-- i of the nodes that a list names are measured; the table has room for nodes below count
pub record Measured (w₀ : List ℕ) (list found table count : ℕ) (size : ℕ → ℕ) (w : List ℕ) (i : ℕ) : Type 0 where
  pub within : i ≤ found
  pub long : length w ≡ length w₀
  pub low : take table w ≡ take table w₀
  pub high : drop (table + count + count) w ≡ drop (table + count + count) w₀
  pub sizes : (k : ℕ) → k < i → long_of table w (get_or w₀ (list + k) 0) ≡ size (get_or w₀ (list + k) 0)

-- ---- sorting

-- the places of a list in the order of their keys
abbrev pub sorted_names : (ℕ → List ℕ) → ℕ → List ℕ
sorted_names key n = isort (by_key key) (up_from 0 n)

-- the list is put in that order, if no two keys are one
pub record Arranged (key : ℕ → List ℕ) (w₀ : List ℕ) (list found : ℕ) (w : List ℕ) (r : Bool) : Type 0 where
  pub answer : r ≡ all_of found (rising (λ i. key (get_or (sorted_names key found) i 0)))
  pub nodes : r ≡ true → (i : ℕ) → i < found → get_or w (list + i) 0 ≡ get_or w₀ (list + get_or (sorted_names key found) i 0) 0
  pub behind : drop (list + found) w ≡ drop (list + found) w₀

-- ---- the containers of a draft

-- what rules 19 to 21 have shown: entries are whole, each node is numbered once, parent steps lead to the root, names are good
pub record Rooted (s : Sections) (order : List ℕ) : Type 0 where
  pub whole : length s.nodes ≡ node_count s * node_words s.version
  pub numbers : Permutation (node_count s) order
  pub climbs : AllClimb s
  pub named : (x : ℕ) → x < node_count s → is_container s x ≡ true → good_optional s (f s x 0) (f s x 1) ≡ true

-- how many paths there are, if rule 22 passes
unfoldable pub indexed_of : ℕ → ℕ → Result ℕ ℕ
indexed_of r n = cond (eqb r 0) (Ok n) (Err r)

-- the answer; the containers in the order of the index, with the lengths of their paths; and what is behind the tables stays
pub record Indexes (s : Sections) (order : List ℕ) (l : Layout) (w₀ w : List ℕ) (r : Result ℕ ℕ) : Type 0 where
  pub answer : r ≡ indexed_of (paths_rule s) (length (by_path s order))
  pub boxes : paths_rule s ≡ 0 → (k : ℕ) → k < length (by_path s order)
      → get_or (drop l.at w) (l.paths + k) 0 ≡ old_of order (get_or (by_path s order) k 0)
  pub lengths : paths_rule s ≡ 0 → (k : ℕ) → k < length (by_path s order)
      → long_of l.lengths (drop l.at w) (old_of order (get_or (by_path s order) k 0)) ≡ length (path_of s order (get_or (by_path s order) k 0))
  pub behind : drop (l.at + l.lengths + node_count s + node_count s) w ≡ drop (l.at + l.lengths + node_count s + node_count s) w₀
