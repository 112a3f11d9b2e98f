-- `target_changes::target_field::is_allowed` meets its contract.
use Rattle.target_changes.proofs.WordSteps.{allowed-choice, allowed-divert, allowed-value, allowed-reference, allowed-none}
use Rattle.target_changes.proofs.target_field.is_allowed.Goals as goal

pub returns-in-2 : goal.returns-in-2
returns-in-2 c = allowed-choice _ _ _ _ _ c.in-2.is c.is_container.ensures

pub returns-in-4 : goal.returns-in-4
returns-in-4 c = allowed-divert _ _ _ _ _ c.in-4.is c.is_optional_node.ensures

pub returns-in-13 : goal.returns-in-13
returns-in-13 c = allowed-value _ _ _ _ _ c.in-13.is c.is_inside.ensures

pub returns-in-17 : goal.returns-in-17
returns-in-17 c = allowed-reference _ _ _ _ _ c.in-17.is c.is_optional_container.ensures

pub returns-in_default : goal.returns-in_default
returns-in_default c = allowed-none _ _ _ _ c.in_default.in_default-own.rest.0.0.0.1 c.in_default.in_default-own.rest.0.0.1 c.in_default.in_default-own.rest.0.1 c.in_default.in_default-own.rest.1
