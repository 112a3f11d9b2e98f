-- The writer's walk in work words: what it asks of a draft, and the numbers that it leaves.
use Rattle.std.specs.Prelude.{ℕ, suc, ◌+◌, ◌*◌, ◌-◌, ◌≤◌, ◌<◌, ◌≡◌, List, [], true, get_or, drop}
use Rattle.laws.specs.Lists.{place_in}
use Rattle.words.specs.Words.{NONE}
use Rattle.image.specs.Sections.{Sections, text_entry_words, node_count, child_count, named_count, child_word, named_word, inside}
use Rattle.tree.specs.Tree.{entry_nodes, read_walk}
use Rattle.tree.specs.Work.{mark_in, tree_words, Pushed, Entered}
use Rattle.draft.specs.Source.{draft_of}
use Rattle.draft.specs.Numbering.{numbering, old_of}

-- nodes, ordered children and named children of a draft; its other sections do not matter here
abbrev pub tree_of : ℕ → List ℕ → List ℕ → List ℕ → Sections
tree_of version nodes children named = draft_of version nodes children named [] [] [] []

-- every entry leads to a node, which NONE is not
pub record Leads (s : Sections) : Type 0 where
  pub child : (j : ℕ) → j < child_count s → inside s (child_word s j) ≡ true
  pub named : (j : ℕ) → j < named_count s → inside s (named_word s j 2) ≡ true

-- the numbers of all nodes, from word base on
pub record Numbered (s : Sections) (base : ℕ) (w : List ℕ) : Type 0 where
  pub few : node_count s ≤ NONE
  -- the draft's number of each node of the image
  pub olds : (j : ℕ) → j < node_count s → get_or w (base + j) 0 ≡ old_of (numbering s) j
  -- the image's number of each node of the draft
  pub news : (i : ℕ) → i < node_count s → get_or w (base + node_count s + i) 0 ≡ place_in (numbering s) i

-- ---- pushes: no node is refused, and the last entry is pushed first

abbrev pub free : ℕ → ℕ
free i = 0

-- the node of ordered child j of the count from start on, the last first
abbrev pub child_down : List ℕ → ℕ → ℕ → ℕ → ℕ
child_down cs start count j = get_or cs (start + (count - 1 - j)) 0

-- the node of named entry j
abbrev pub named_down : List ℕ → ℕ → ℕ → ℕ → ℕ
named_down ms start count j = get_or ms ((start + (count - 1 - j)) * text_entry_words + 2) 0

-- the node of entry j, where an entry has `size` words
abbrev pub entry_down : ℕ → ℕ → List ℕ → ℕ → ℕ → ℕ → ℕ
entry_down size node es start count j = get_or es ((start + (count - 1 - j)) * size + node) 0

abbrev pub EntriesPushed : ℕ → ℕ → List ℕ → ℕ → ℕ → ℕ → ℕ → List ℕ → List ℕ → Type 0
EntriesPushed size node es start count base depth w₀ w = Pushed free (entry_down size node es start count) count base depth w₀ w 0

abbrev pub ChildrenPushed : List ℕ → ℕ → ℕ → ℕ → ℕ → List ℕ → List ℕ → Type 0
ChildrenPushed cs start count base depth w₀ w = Pushed free (child_down cs start count) count base depth w₀ w 0

abbrev pub NamedPushed : List ℕ → ℕ → ℕ → ℕ → ℕ → List ℕ → List ℕ → Type 0
NamedPushed ms start count base depth w₀ w = Pushed free (named_down ms start count) count base depth w₀ w 0

-- of all entries of node i, the first on top
abbrev pub NodeEntered : Sections → ℕ → ℕ → ℕ → List ℕ → List ℕ → ℕ → Type 0
NodeEntered s i base depth w₀ w depth' = Entered 0 (entry_nodes s i) base depth w₀ w 0 depth'

-- ---- marks

-- what the walk leaves: a marked node's word is 1 and the count of the nodes marked before it, any other's is 0
pub record Read (s : Sections) (w₀ w : List ℕ) : Type 0 where
  pub marks : (i : ℕ) → i < node_count s → get_or w i 0 ≡ mark_in suc (read_walk s).seen i
  pub rest : drop (tree_words s) w ≡ drop (tree_words s) w₀

-- the first n words are the numbers 1 to n, in any order
pub record Marks (n : ℕ) (w : List ℕ) : Type 0 where
  pub few : n ≤ NONE
  pub some : (i : ℕ) → i < n → 0 < get_or w i 0
  pub within : (i : ℕ) → i < n → get_or w i 0 ≤ n
  pub apart : (i k : ℕ) → i < n → k < n → get_or w i 0 ≡ get_or w k 0 → i ≡ k

-- what such words give: behind word base the node of each mark, then the mark of each node, counted from 0
pub record NumberTables (n base : ℕ) (w₀ w : List ℕ) : Type 0 where
  pub olds : (i : ℕ) → i < n → get_or w (base + (get_or w₀ i 0 - 1)) 0 ≡ i
  pub news : (i : ℕ) → i < n → get_or w (base + n + i) 0 ≡ get_or w₀ i 0 - 1
  pub rest : drop (base + 2 * n) w ≡ drop (base + 2 * n) w₀
