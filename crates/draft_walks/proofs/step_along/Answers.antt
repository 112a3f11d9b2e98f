-- `draft_walks::step_along` meets its contract.
use Rattle.walks.proofs.Steps.{step-parent, step-index, step-name, step-broken}
use Rattle.draft_walks.proofs.step_along.Goals as goal

pub returns-in-0 : goal.returns-in-0
returns-in-0 c = step-parent _ _ _ _ _ _ c.in-0.is _ (c.parent_of.ensures _ _ _)

pub returns-in-1 : goal.returns-in-1
returns-in-1 c = step-index _ _ _ _ _ _ c.in-1.is _ (c.child_at.ensures _ _)

pub returns-in-2 : goal.returns-in-2
returns-in-2 c = step-name _ _ _ _ _ _ c.in-2.is _ (c.child_named.ensures _)

pub returns-in_default : goal.returns-in_default
returns-in_default c = step-broken _ _ _ _ _ _ c.in_default.in_default-own.rest.0.0.1 c.in_default.in_default-own.rest.0.1 c.in_default.in_default-own.rest.1
