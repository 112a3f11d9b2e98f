-- `views::view::container` meets its contract.
use Rattle.laws.proofs.Cases.{cases}
use Rattle.views.specs.Shown.{container_view}
use borrow.Author.Rules.{rules}
use Rattle.views.proofs.view.container.Goals as goal

pub returns : goal.returns
unfolding container_view
returns c = search (cases, rules)
