-- `records::at_most` meets its contract.
use Rattle.records.proofs.Tests.{at_most, above}
use Rattle.records.proofs.at_most.Goals as goal

pub returns-then-word-most : goal.returns-then-word-most
returns-then-word-most c = search at_most

pub returns-else-word-most : goal.returns-else-word-most
returns-else-word-most c = search above
