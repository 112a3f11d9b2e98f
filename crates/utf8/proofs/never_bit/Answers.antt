-- `utf8::never_bit` meets its contract.
use borrow.Author.Rules.{rules}
use Rattle.utf8.specs.Places.{never}
use Rattle.utf8.proofs.Blocks.{flag_or, flag-and}
use Rattle.utf8.proofs.never_bit.Goals as goal

pub returns : goal.returns
unfolding never
returns c = search (rules, flag_or, flag-and)
