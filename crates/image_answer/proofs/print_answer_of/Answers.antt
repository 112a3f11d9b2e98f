-- What was read tells the answer of the whole input.
use Rattle.std.proofs.Common.{arith, length-take-le}
use Rattle.image_answer.proofs.Whole.{said}
use Rattle.image_answer.proofs.print_answer_of.Goals as goal

pub returns : goal.returns
returns g c =
    let read = c.in_ok-n.ensures in
    let size = length-take-le c.in_ok-n.n c.read_full.new.buffer read.bound in
    said _ _ _ _ _ _ _ read.bytes (λ h. read.end (omega arith)) c.answer_of.ensures c.print_answer.ensures
