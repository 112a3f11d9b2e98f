-- `utf8::high_bit` meets its contract.
use borrow.Author.Rules.{rules}
use Rattle.utf8.specs.Places.{too_high}
use Rattle.utf8.proofs.Blocks.{flag_or, flag-and}
use Rattle.utf8.proofs.high_bit.Goals as goal

pub returns : goal.returns
unfolding too_high
returns c = search (rules, flag_or, flag-and)
