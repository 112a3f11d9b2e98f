-- `image::node_word` meets its contract.
use native.Mathlib.Omega.{arith}
use Rattle.image.proofs.Widths.{node-inside}
use Rattle.image.proofs.node_word.Goals as goal

pub first_word-requires : goal.first_word-requires
first_word-requires c = omega (arith, node-inside _ _ _ c.requires.0)

pub overflow_add-first_word : goal.overflow_add-first_word
overflow_add-first_word c = omega (arith, node-inside _ _ _ c.requires.0)

pub part_word-requires : goal.part_word-requires
part_word-requires c = omega (arith, node-inside _ _ _ c.requires.0)

pub returns : goal.returns
returns c = cc
