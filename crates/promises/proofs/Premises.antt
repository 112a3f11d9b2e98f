-- What all proofs about accepted images start from: the rules in plain words, and that NONE is no number of a node or a child.
use Prim.Native.Nat.{ℕ, ◌<◌}
use mathlib.Core.Path.{◌≡◌}
use mathlib.Core.List.{List}
use native.Mathlib.Omega.{arith}
use lib.ListN.{length}
use Rattle.laws.specs.Lists.{Below}
use Rattle.words.specs.Words.{NONE}
use Rattle.image.specs.Sections.{Sections, node_count, child_count}
use Rattle.image.specs.Header.{sections_of, view_of}
use Rattle.image.proofs.Widths.{least_size}
use Rattle.image.proofs.OpenedHeader.{view-inside, view-counts, length-word}
use Rattle.load.specs.Load.{load_rule}
use Rattle.promises.specs.Rules.{NodeRight, SectionsRight, BreaksNone}
use Rattle.promises.proofs.Acceptance.{right-header, some-node, accepted-right, load-accepted}

pub record Kept (s : Sections) : Type 0 where
  pub rules : SectionsRight s
  pub some : 0 < node_count s
  pub nodes : node_count s < NONE
  pub children : child_count s < NONE

-- an image is shorter than a word can tell
pub kept : (bs : List ℕ) → Below 256 bs → BreaksNone bs → Kept (sections_of bs)
kept bs b r =
    let i = view-inside bs (right-header bs r.header) in
    let c = view-counts bs (right-header bs r.header) in
    let l : length bs < 4294967296 = length-word bs b (right-header bs r.header) in
    record {
      rules = r.sections;
      some = some-node bs (right-header bs r.header);
      nodes = omega (arith, i.nodes, c.nodes, least_size (view_of bs).nodes.count (view_of bs).version);
      children = omega (arith, i.children, c.children);
    }

pub load_kept : (bs : List ℕ) (work : ℕ) → Below 256 bs → load_rule bs work ≡ 0 → Kept (sections_of bs)
load_kept bs work b p = kept bs b (accepted-right bs (load-accepted bs work p))

pub a_node : {s : Sections} → Kept s → (i : ℕ) → i < node_count s → NodeRight s i
a_node g i h = record { below = h; given = λ e. omega (arith, g.nodes) }
