-- The sections that the index is made of, out of their bytes, and what is read out of them.
use Rattle.std.specs.Prelude.{ℕ, List, []}
use Rattle.words.specs.Words.{words_of}
use Rattle.image.specs.Sections.{Sections, parent_of, place_of, f}
use Rattle.index.specs.declared.PathNode.{PathNode}

-- of a format version: nodes, index and strings; the other sections do not matter here
abbrev pub index_parts : ℕ → List ℕ → List ℕ → List ℕ → Sections
index_parts version nodes index strings =
    record {
      version = version;
      nodes = words_of nodes;
      children = [];
      named = [];
      definitions = [];
      items = [];
      index = words_of index;
      payload = [];
      strings = strings;
    }

-- what a path needs of node i
abbrev pub path_node_of : Sections → ℕ → PathNode
path_node_of s i = record { parent = parent_of s i; place = place_of s i; offset = f s i 0; len = f s i 1 }
