-- `draft::source::node_word` meets its contract.
use Prim.Native.Nat.{ℕ, ◌+◌}
use mathlib.Core.Path.{ap}
use native.Mathlib.Omega.{arith}
use lib.ListN.{get_or}
use Rattle.image.proofs.Widths.{node-within}
use Rattle.draft.proofs.source.node_word.Goals as goal

pub first_word-requires : goal.first_word-requires
first_word-requires c = let to = c in omega (arith, node-within to.args.nodes.now to.args.source.version to.args.i to.requires.0)

pub overflow_add-result : goal.overflow_add-result
overflow_add-result c = let to = c in omega (arith, node-within to.args.nodes.now to.args.source.version to.args.i to.requires.0)

pub offset_bounds-nodes-first_word : goal.offset_bounds-nodes-first_word
offset_bounds-nodes-first_word c = let to = c in omega (arith, node-within to.args.nodes.now to.args.source.version to.args.i to.requires.0)

pub bounds-nodes-first_word : goal.bounds-nodes-first_word
bounds-nodes-first_word c = let to = c in omega (arith, node-within to.args.nodes.now to.args.source.version to.args.i to.requires.0)

pub returns : goal.returns
returns c =
    let to = c.args in
    ap (λ (at : ℕ). get_or to.nodes.now (at + to.k) 0) c.first_word.ensures
