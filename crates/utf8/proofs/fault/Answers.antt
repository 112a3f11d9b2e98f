-- `utf8::fault` meets its contract.
use borrow.Author.Rules.{rules}
use Rattle.utf8.specs.Places.{wrong, continues}
use Rattle.utf8.proofs.Blocks.{flag_or, flag_xor}
use Rattle.utf8.proofs.fault.Goals as goal

pub returns : goal.returns
unfolding wrong continues
returns c = search (rules, flag_or, flag_xor) depth 8
