-- `index::path_node` meets its contract.
use native.Mathlib.Omega.{arith}
use Rattle.image.specs.Sections.{node_word}
use Rattle.image.proofs.Widths.{words-some}
use Rattle.index.proofs.path_node.Goals as goal

pub node_word_or_zero-requires : goal.node_word_or_zero-requires
node_word_or_zero-requires c = omega (arith, words-some c.args.version)

pub node_word_or_zero-requires-2 : goal.node_word_or_zero-requires-2
node_word_or_zero-requires-2 c = omega (arith, words-some c.args.version)

pub node_word_or_zero-requires-3 : goal.node_word_or_zero-requires-3
node_word_or_zero-requires-3 c = omega (arith, words-some c.args.version)

pub node_word_or_zero-requires-4 : goal.node_word_or_zero-requires-4
node_word_or_zero-requires-4 c = omega (arith, words-some c.args.version)

pub returns : goal.returns
unfolding node_word
returns c = cc
