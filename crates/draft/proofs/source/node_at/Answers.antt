-- `draft::source::node_at` meets its contract.
use native.Mathlib.Omega.{arith}
use Rattle.image.proofs.Widths.{node-within}
use Rattle.draft.proofs.source.node_at.Goals as goal

pub first_word-requires : goal.first_word-requires
first_word-requires c = let to = c in omega (arith, node-within to.args.nodes.now to.args.source.version to.args.i to.requires)

pub record_at-requires : goal.record_at-requires
record_at-requires c = let to = c in omega (arith, node-within to.args.nodes.now to.args.source.version to.args.i to.requires)

pub returns : goal.returns
returns c = c.record_at.ensures _ _ c.first_word.ensures
