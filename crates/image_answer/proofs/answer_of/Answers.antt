-- Each answer is that of the image alone.
use Rattle.std.proofs.Common.{rules, ap, arith}
use Rattle.image.specs.Refusals.{numbered}
use Rattle.image_answer.proofs.Enough.{long, viewed, refused}
use Rattle.image_answer.proofs.answer_of.Goals as goal

pub returns-then-bytes-gt-LIMIT : goal.returns-then-bytes-gt-LIMIT
returns-then-bytes-gt-LIMIT c = search (rules, long)

pub returns-in-Ok : goal.returns-in-Ok
returns-in-Ok c = viewed _ _ _ _ c.if-bytes-gt-LIMIT.false (omega arith) c.load.ensures.answer (ap numbered c.in-Ok.is)

pub returns-in-Err : goal.returns-in-Err
returns-in-Err c = rw c.number.ensures (refused _ _ _ _ c.if-bytes-gt-LIMIT.false (omega arith) c.load.ensures.answer (ap numbered c.in-Err.is))
