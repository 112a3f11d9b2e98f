-- The sections that the tree is made of, out of their bytes, and what the record rules have shown of them before the tree is walked.
use Rattle.std.specs.Prelude.{ℕ, ◌+◌, ◌≤◌, ◌<◌, ◌≡◌, List, [], reverse, true}
use Rattle.words.specs.Words.{words_of}
use Rattle.image.specs.Sections.{Sections, node_count, child_count, named_count, f, is_container}
use Rattle.records.specs.Records.{children_before, named_before}
use Rattle.tree.specs.Tree.{child_at, named_at, child_rule, named_rule, entries_rule, entry_nodes}
use Rattle.tree.specs.Work.{Pushed, Entered}

-- of a format version: nodes, ordered children, named children and strings; the other sections do not matter here
abbrev pub parts_of : ℕ → List ℕ → List ℕ → List ℕ → List ℕ → Sections
parts_of version nodes children named strings =
    record {
      version = version;
      nodes = words_of nodes;
      children = words_of children;
      named = words_of named;
      definitions = [];
      items = [];
      index = [];
      payload = [];
      strings = strings;
    }

-- there is a node, and each entry belongs to one container
pub record EntriesOwned (s : Sections) : Type 0 where
  pub some : 0 < node_count s
  pub children : children_before s (node_count s) ≡ child_count s
  pub named : named_before s (node_count s) ≡ named_count s

-- a container's entries lie in their sections
pub record Ranges (s : Sections) (i : ℕ) : Type 0 where
  pub children : f s i 3 + f s i 4 ≤ child_count s
  pub named : f s i 5 + f s i 6 ≤ named_count s

pub record Fit (s : Sections) : Type 0 where
  pub counts : EntriesOwned s
  pub ranges : (i : ℕ) → i < node_count s → is_container s i ≡ true → Ranges s i

-- the node of container i's named entry j
abbrev pub named_node : Sections → ℕ → ℕ → ℕ
named_node s i j = named_at s i j 2

-- ---- pushes, by the parts that each reads

-- of container i's ordered children
abbrev pub ChildrenPushed : ℕ → List ℕ → List ℕ → ℕ → ℕ → ℕ → ℕ → List ℕ → List ℕ → ℕ → Type 0
ChildrenPushed version ns cs i count base depth w₀ w r = Pushed (child_rule (parts_of version ns cs [] []) i) (child_at (parts_of version ns cs [] []) i) count base depth w₀ w r

-- of its named children
abbrev pub NamedPushed : ℕ → List ℕ → List ℕ → List ℕ → ℕ → ℕ → ℕ → ℕ → List ℕ → List ℕ → ℕ → Type 0
NamedPushed version ns ms ss i count base depth w₀ w r = Pushed (named_rule (parts_of version ns [] ms ss) i) (named_node (parts_of version ns [] ms ss) i) count base depth w₀ w r

-- of all its entries; the last is the newest
abbrev pub NodeEntered : Sections → ℕ → ℕ → ℕ → List ℕ → List ℕ → ℕ → ℕ → Type 0
NodeEntered s i base depth w₀ w r depth' = Entered (entries_rule s i) (reverse (entry_nodes s i)) base depth w₀ w r depth'
