-- `records::root_right` meets its contract.
use borrow.Author.Rules.{rules}
use Rattle.records.proofs.ByKind.{root-parent, root-place, root_tag}
use Rattle.records.proofs.root_right.Goals as goal

pub returns-then-root-ne-NONE : goal.returns-then-root-ne-NONE
returns-then-root-ne-NONE c = root-parent _ (search rules)

pub returns-then-root-ne-NONE-2 : goal.returns-then-root-ne-NONE-2
returns-then-root-ne-NONE-2 c = root-place _ (search rules) (search rules)

pub returns : goal.returns
returns c = root_tag _ (search rules) (search rules)
