-- `utf8::short_fault` meets its contract.
use borrow.Author.Rules.{rules}
use Rattle.utf8.specs.Places.{short_wrong, continues}
use Rattle.utf8.proofs.Blocks.{flag_or, flag_xor}
use Rattle.utf8.proofs.short_fault.Goals as goal

pub returns : goal.returns
unfolding short_wrong continues
returns c = search (rules, flag_or, flag_xor) depth 8
