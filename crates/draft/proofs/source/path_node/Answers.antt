-- `draft::source::path_node` meets its contract.
use Prim.Native.Nat.{ℕ, ◌+◌, ◌*◌}
use mathlib.Core.Path.{◌≡◌}
use mathlib.Core.List.{List}
use native.Mathlib.Omega.{arith}
use lib.ListN.{get_or}
use Rattle.image.specs.Sections.{node_words}
use Rattle.image.proofs.Widths.{number-words}
use Rattle.draft.specs.declared.source.PathNode.{PathNode}
use Rattle.draft.proofs.source.path_node.Goals as goal

-- the words from the first one on
abbrev words-from : List ℕ → ℕ → ℕ → PathNode
words-from nodes at next = record { parent = get_or nodes at 0; place = get_or nodes (next + 1) 0; offset = get_or nodes (next + 3) 0; len = get_or nodes (next + 4) 0 }

from_first : (nodes : List ℕ) (at first : ℕ) → at ≡ first → words-from nodes at at ≡ words-from nodes (first + 0) first
from_first nodes at first e =
    let z : at ≡ first + 0 = omega arith in
    cc

pub first_word-at-requires : goal.first_word-at-requires
first_word-at-requires c = let to = c.args in omega (arith, number-words to.n to.source.version (omega arith))

pub overflow_add-at : goal.overflow_add-at
overflow_add-at c = let to = c.args in omega (arith, c.first_word-at.ensures, number-words to.n to.source.version (omega arith))

pub returns-then-at-nodes : goal.returns-then-at-nodes
returns-then-at-nodes c = let to = c.args in from_first to.nodes.now c.first_word-at.result (to.n * node_words to.source.version) c.first_word-at.ensures

pub returns : goal.returns
returns c = cc
