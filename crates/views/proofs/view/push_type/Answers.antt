-- `views::view::push_type` meets its contract.
use borrow.Author.Rules.{rules}
use Rattle.laws.proofs.Cases.{cases}
use Rattle.views.specs.View.{push_type}
use Rattle.views.proofs.view.push_type.Goals as goal

pub returns-in-0 : goal.returns-in-0
unfolding push_type
returns-in-0 c = search (cases, rules)

pub returns-in-1 : goal.returns-in-1
unfolding push_type
returns-in-1 c = rw c.in-1.is

pub returns-in_default : goal.returns-in_default
unfolding push_type
returns-in_default c = search (cases, rules)
