-- `answers::view_words::assignment` meets its contract.
use Rattle.answers.proofs.view_words.assignment.Goals as goal

pub returns : goal.returns
returns c = rw (← c.bit_if-2.ensures.value, ← c.bit_if.ensures.value) c.text_alone.ensures
