-- `draft_walks::child_named` meets its contract.
use Rattle.walks.proofs.Steps.{name-inside, name-outside}
use Rattle.draft_walks.proofs.child_named.Goals as goal

pub returns-then-end-names : goal.returns-then-end-names
returns-then-end-names c = λ children. name-inside _ _ _ _ _ c.if-end-names.true _ (c.find_named_child.ensures children)

pub returns-else-end-names : goal.returns-else-end-names
returns-else-end-names c = λ children. name-outside _ _ _ _ _ c.if-end-names.false
