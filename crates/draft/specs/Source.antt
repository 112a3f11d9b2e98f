-- A draft's sections, out of its words and bytes, by its format version: a draft has no index.
use Rattle.std.specs.Prelude.{ℕ, ◌+◌, ◌*◌, ◌≡◌, List, [], get_or}
use Rattle.image.specs.Sections.{Sections, node_words}
use Rattle.image.specs.declared.EntryCounts.{EntryCounts}
use Rattle.draft.specs.declared.source.PathNode.{PathNode}
use Rattle.draft.specs.declared.source.Draft.{Draft}
use Rattle.draft.specs.Needs.{draft_counts}

abbrev pub draft_of : ℕ → List ℕ → List ℕ → List ℕ → List ℕ → List ℕ → List ℕ → List ℕ → Sections
draft_of version nodes children named definitions items payload strings =
    record {
      version = version;
      nodes = nodes;
      children = children;
      named = named;
      definitions = definitions;
      items = items;
      index = [];
      payload = payload;
      strings = strings;
    }

-- the sections of a draft that is lent
abbrev pub drafted : ℕ → Draft → Sections
drafted version d = draft_of version d.nodes.now d.children.now d.named.now d.definitions.now d.items.now d.payload.now d.strings.now

-- the sections with other nodes
abbrev pub with_nodes : Sections → List ℕ → Sections
with_nodes s nodes =
    record {
      version = s.version;
      nodes = nodes;
      children = s.children;
      named = s.named;
      definitions = s.definitions;
      items = s.items;
      index = s.index;
      payload = s.payload;
      strings = s.strings;
    }

-- a draft that has nodes and a payload alone
abbrev pub nodes_only : ℕ → List ℕ → List ℕ → Sections
nodes_only version nodes payload = draft_of version nodes [] [] [] [] payload []

-- word k of node n, in the nodes' words: 0 past the end
abbrev pub word_of : ℕ → List ℕ → ℕ → ℕ → ℕ
word_of version nodes n k = get_or nodes (n * node_words version + k) 0

-- what a path needs of node n
abbrev pub path_node : ℕ → List ℕ → ℕ → PathNode
path_node version nodes n =
    record {
      parent = word_of version nodes n 0;
      place = word_of version nodes n 1;
      offset = word_of version nodes n 3;
      len = word_of version nodes n 4;
    }

-- sections whose nodes, payload and strings are these, with their counts
pub record NodesFrom (s : Sections) (version : ℕ) (nodes payload strings : List ℕ) (c : EntryCounts) : Type 0 where
  pub version_is : s.version ≡ version
  pub nodes_are : s.nodes ≡ nodes
  pub payload_is : s.payload ≡ payload
  pub strings_are : s.strings ≡ strings
  pub counts : c ≡ draft_counts s
