-- What is written of each answer is its line.
use Rattle.std.proofs.Common.{rules}
use Rattle.image_answer.proofs.Lines.{accepted-written, refused-written, long-written}
use Rattle.image_answer.proofs.AnswerDisplay.fmt.Goals as goal

pub returns-in-Accepted-clause-writes : goal.returns-in-Accepted-clause-writes
returns-in-Accepted-clause-writes g c = search (rules, accepted-written)

pub returns-in-Refused-clause-writes : goal.returns-in-Refused-clause-writes
returns-in-Refused-clause-writes g c = search (rules, refused-written)

pub returns-in-Long-clause-writes : goal.returns-in-Long-clause-writes
returns-in-Long-clause-writes g c = search (rules, long-written)
