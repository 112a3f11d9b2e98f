-- `views::view::optional_text` meets its contract.
use Rattle.laws.proofs.Cases.{cases}
use Rattle.views.specs.View.{optional_text}
use borrow.Author.Rules.{rules}
use Rattle.views.proofs.view.optional_text.Goals as goal

pub returns-then-is_shown : goal.returns-then-is_shown
unfolding optional_text
returns-then-is_shown c = search (cases, rules)

pub returns-else-is_shown : goal.returns-else-is_shown
unfolding optional_text
returns-else-is_shown c = search (cases, rules)
