-- `views::view::divert` meets its contract.
use Rattle.laws.proofs.Cases.{cases}
use Rattle.views.specs.Shown.{divert_view}
use borrow.Author.Rules.{rules}
use Rattle.views.proofs.view.divert.Goals as goal

pub returns-then-stack-gt2 : goal.returns-then-stack-gt2
unfolding divert_view
returns-then-stack-gt2 c = search (cases, rules)

pub returns : goal.returns
unfolding divert_view
returns c = search (cases, rules)
