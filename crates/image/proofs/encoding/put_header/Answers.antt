-- `image::encoding::put_header` meets its contract.
use Rattle.image.proofs.HeaderBytes.{counts_fit, starts_fit, header_put}
use native.Mathlib.Omega.{arith}
use Rattle.image.proofs.encoding.put_header.Goals as goal

pub overflow_cast-words : goal.overflow_cast-words
overflow_cast-words c = (starts_fit _ _ _ c.nodes_length-children.ensures c.requires.1).7

pub overflow_cast-words-3 : goal.overflow_cast-words-3
overflow_cast-words-3 c = (counts_fit _ _ _ c.nodes_length-children.ensures c.requires.1).0

pub overflow_cast-words-4 : goal.overflow_cast-words-4
overflow_cast-words-4 c = (starts_fit _ _ _ c.nodes_length-children.ensures c.requires.1).0

pub overflow_cast-words-5 : goal.overflow_cast-words-5
overflow_cast-words-5 c = (counts_fit _ _ _ c.nodes_length-children.ensures c.requires.1).1

pub overflow_cast-words-6 : goal.overflow_cast-words-6
overflow_cast-words-6 c = (starts_fit _ _ _ c.nodes_length-children.ensures c.requires.1).1

pub overflow_cast-words-7 : goal.overflow_cast-words-7
overflow_cast-words-7 c = (counts_fit _ _ _ c.nodes_length-children.ensures c.requires.1).2

pub overflow_cast-words-8 : goal.overflow_cast-words-8
overflow_cast-words-8 c = (starts_fit _ _ _ c.nodes_length-children.ensures c.requires.1).2

pub overflow_cast-words-9 : goal.overflow_cast-words-9
overflow_cast-words-9 c = (counts_fit _ _ _ c.nodes_length-children.ensures c.requires.1).3

pub overflow_cast-words-10 : goal.overflow_cast-words-10
overflow_cast-words-10 c = (starts_fit _ _ _ c.nodes_length-children.ensures c.requires.1).3

pub overflow_cast-words-11 : goal.overflow_cast-words-11
overflow_cast-words-11 c = (counts_fit _ _ _ c.nodes_length-children.ensures c.requires.1).4

pub overflow_cast-words-12 : goal.overflow_cast-words-12
overflow_cast-words-12 c = (starts_fit _ _ _ c.nodes_length-children.ensures c.requires.1).4

pub overflow_cast-words-13 : goal.overflow_cast-words-13
overflow_cast-words-13 c = (counts_fit _ _ _ c.nodes_length-children.ensures c.requires.1).5

pub overflow_cast-words-14 : goal.overflow_cast-words-14
overflow_cast-words-14 c = (starts_fit _ _ _ c.nodes_length-children.ensures c.requires.1).5

pub overflow_cast-words-15 : goal.overflow_cast-words-15
overflow_cast-words-15 c = (counts_fit _ _ _ c.nodes_length-children.ensures c.requires.1).6

pub overflow_cast-words-16 : goal.overflow_cast-words-16
overflow_cast-words-16 c = (starts_fit _ _ _ c.nodes_length-children.ensures c.requires.1).6

pub overflow_cast-words-17 : goal.overflow_cast-words-17
overflow_cast-words-17 c = (counts_fit _ _ _ c.nodes_length-children.ensures c.requires.1).7

pub put_magic-requires : goal.put_magic-requires
put_magic-requires c = c.requires.0

pub put_words-requires : goal.put_words-requires
put_words-requires c = let room = c.requires.0 in omega (arith, room, c.put_magic.auto)

pub returns : goal.returns
returns c =
    let entry = c in
    let counted = c.nodes_length-children.ensures in
    λ s k. header_put _ _ s _ counted k _ _ _ _ entry.requires.0 c.put_magic.ensures c.put_words.ensures
