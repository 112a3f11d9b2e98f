-- `views::view::optional_word` meets its contract.
use borrow.Author.Rules.{rules}
use Rattle.laws.proofs.Cases.{cases}
use Rattle.views.specs.View.{optional_word}
use Rattle.views.proofs.view.optional_word.Goals as goal

pub returns-then-word-eq-NONE : goal.returns-then-word-eq-NONE
unfolding optional_word
returns-then-word-eq-NONE c = search (cases, rules)

pub returns-else-word-eq-NONE : goal.returns-else-word-eq-NONE
unfolding optional_word
returns-else-word-eq-NONE c = search (cases, rules)
