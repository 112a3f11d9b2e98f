-- `records::is_next` meets its contract.
use Rattle.records.proofs.Tests.{past_end, in_end}
use Rattle.records.proofs.is_next.Goals as goal

pub returns-then-all-from : goal.returns-then-all-from
returns-then-all-from c = search past_end

pub returns : goal.returns
returns c = search in_end
