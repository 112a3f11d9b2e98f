-- `records::target_of` meets its contract.
use Rattle.records.proofs.ByKind.{target-second, target_fourth, target_none}
use Rattle.records.proofs.target_of.Goals as goal

pub returns-in-2 : goal.returns-in-2
returns-in-2 c = target-second _ _ c.in-2.is

pub returns-in-17 : goal.returns-in-17
returns-in-17 c = target_fourth _ _ c.in-17.is

pub returns-in_default : goal.returns-in_default
returns-in_default c = target_none _ _ c.in_default.in_default-own.rest.0.1 c.in_default.in_default-own.rest.1
