-- `utf8::low_bit` meets its contract.
use borrow.Author.Rules.{rules}
use Rattle.utf8.specs.Places.{too_low}
use Rattle.utf8.proofs.Blocks.{flag_or, flag-and}
use Rattle.utf8.proofs.low_bit.Goals as goal

pub returns : goal.returns
unfolding too_low
returns c = search (rules, flag_or, flag-and)
