-- `walks::child_named` meets its contract.
use Rattle.walks.proofs.Steps.{name-inside, name-outside}
use Rattle.walks.proofs.child_named.Goals as goal

pub returns-then-end-names : goal.returns-then-end-names
returns-then-end-names c = name-inside _ _ _ _ _ c.if-end-names.true _ c.find_named_child.ensures

pub returns-else-end-names : goal.returns-else-end-names
returns-else-end-names c = name-outside _ _ _ _ _ c.if-end-names.false
