-- `list_items::items_inside` meets its contract.
use Rattle.list_items.proofs.Search.{inside_yes, inside_no}
use Rattle.list_items.proofs.items_inside.Goals as goal

pub returns-then-all-definition : goal.returns-then-all-definition
returns-then-all-definition c = inside_no _ _ _ c.if-all-definition.true

pub returns-else-all-definition : goal.returns-else-all-definition
returns-else-all-definition c = inside_yes _ _ _ c.if-all-definition.false
