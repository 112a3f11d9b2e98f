-- `records::is_optional_container` meets its contract.
use Rattle.records.proofs.Tests.{none-optional, some-optional}
use Rattle.records.proofs.is_optional_container.Goals as goal

pub returns-then-word-eq-NONE : goal.returns-then-word-eq-NONE
returns-then-word-eq-NONE c = search none-optional

pub returns : goal.returns
returns c = search some-optional
