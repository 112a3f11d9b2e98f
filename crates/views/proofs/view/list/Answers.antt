-- `views::view::list` meets its contract.
use Rattle.laws.proofs.Cases.{cases}
use Rattle.views.specs.Shown.{list_view}
use borrow.Author.Rules.{rules}
use Rattle.views.proofs.view.list.Goals as goal

pub returns-then-start-len : goal.returns-then-start-len
unfolding list_view
returns-then-start-len c = search (cases, rules)

pub returns-else-start-len : goal.returns-else-start-len
unfolding list_view
returns-else-start-len c = search (cases, rules)
