-- `answers::view_words::operator` meets its contract.
use Rattle.answers.proofs.view_words.operator.Goals as goal

pub returns : goal.returns
returns c = cc
