-- `image::node_record` meets its contract.
use Rattle.image.specs.Entries.{record_of}
use native.Mathlib.Omega.{arith}
use Rattle.image.proofs.Widths.{node-inside}
use Rattle.image.proofs.node_record.Goals as goal

pub first_word-at-requires : goal.first_word-at-requires
first_word-at-requires c = omega (arith, node-inside _ _ _ c.requires)

pub part_word-requires : goal.part_word-requires
part_word-requires c = omega (arith, node-inside _ _ _ c.requires)

pub overflow_add-at : goal.overflow_add-at
overflow_add-at c = omega (arith, node-inside _ _ _ c.requires)

pub part_word-requires-2 : goal.part_word-requires-2
part_word-requires-2 c = omega (arith, node-inside _ _ _ c.requires)

pub overflow_add-at-2 : goal.overflow_add-at-2
overflow_add-at-2 c = omega (arith, node-inside _ _ _ c.requires)

pub part_word-requires-3 : goal.part_word-requires-3
part_word-requires-3 c = omega (arith, node-inside _ _ _ c.requires)

pub overflow_add-at-3 : goal.overflow_add-at-3
overflow_add-at-3 c = omega (arith, node-inside _ _ _ c.requires)

pub part_word-requires-4 : goal.part_word-requires-4
part_word-requires-4 c = omega (arith, node-inside _ _ _ c.requires)

pub overflow_add-at-4 : goal.overflow_add-at-4
overflow_add-at-4 c = omega (arith, node-inside _ _ _ c.requires)

pub part_word-requires-5 : goal.part_word-requires-5
part_word-requires-5 c = omega (arith, node-inside _ _ _ c.requires)

pub overflow_add-at-5 : goal.overflow_add-at-5
overflow_add-at-5 c = omega (arith, node-inside _ _ _ c.requires)

pub part_word-requires-6 : goal.part_word-requires-6
part_word-requires-6 c = omega (arith, node-inside _ _ _ c.requires)

pub overflow_add-at-6 : goal.overflow_add-at-6
overflow_add-at-6 c = omega (arith, node-inside _ _ _ c.requires)

pub part_word-requires-7 : goal.part_word-requires-7
part_word-requires-7 c = omega (arith, node-inside _ _ _ c.requires)

pub overflow_add-at-7 : goal.overflow_add-at-7
overflow_add-at-7 c = omega (arith, node-inside _ _ _ c.requires)

pub part_word-requires-8 : goal.part_word-requires-8
part_word-requires-8 c = omega (arith, node-inside _ _ _ c.requires)

pub overflow_add-at-8 : goal.overflow_add-at-8
overflow_add-at-8 c = omega (arith, node-inside _ _ _ c.requires)

pub part_word-requires-9 : goal.part_word-requires-9
part_word-requires-9 c = omega (arith, node-inside _ _ _ c.requires)

pub overflow_add-at-9 : goal.overflow_add-at-9
overflow_add-at-9 c = omega (arith, node-inside _ _ _ c.requires)

pub part_word-requires-10 : goal.part_word-requires-10
part_word-requires-10 c = omega (arith, node-inside _ _ _ c.requires)

pub returns : goal.returns
unfolding record_of
returns c = cc
