-- `answers::view_words::command` meets its contract.
use Rattle.answers.proofs.view_words.command.Goals as goal

pub returns : goal.returns
returns c = cc
