-- `names::hash` meets its contract.
use borrow.Author.Rules.{rules}
use Rattle.names.specs.Spelling.{hash_of}
use Rattle.names.proofs.Hashes.{hash_none}
use Rattle.names.proofs.hash.Goals as goal

pub returns-in_default-2 : goal.returns-in_default-2
returns-in_default-2 c = hash_none _ c.in_default.ensures.item.3

pub returns : goal.returns
unfolding hash_of
returns c = search rules
