-- `utf8::due_bit` meets its contract.
use borrow.Author.Rules.{rules}
use Rattle.utf8.specs.Places.{due}
use Rattle.utf8.proofs.Blocks.{flag_or, flag-and}
use Rattle.utf8.proofs.due_bit.Goals as goal

pub returns : goal.returns
unfolding due
returns c = search (rules, flag_or, flag-and)
