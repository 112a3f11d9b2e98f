-- `utf8::bit` meets its contract.
use borrow.Author.Rules.{rules}
use Rattle.utf8.specs.Places.{flag}
use Rattle.utf8.proofs.bit.Goals as goal

pub returns : goal.returns
unfolding flag
returns c = search rules
