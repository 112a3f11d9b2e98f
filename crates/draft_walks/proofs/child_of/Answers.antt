-- `draft_walks::child_of` meets its contract.
use mathlib.Core.Path.{refl}
use Rattle.laws.proofs.Cases.{lt_yes, lt_no}
use Rattle.image.specs.Sections.{child_word}
use Rattle.views.specs.Found.{child_found}
use Rattle.draft_walks.proofs.child_of.Goals as goal

pub returns-then-k-children : goal.returns-then-k-children
unfolding child_found child_word
returns-then-k-children c = λ version nodes named strings. lt_yes _ _ _ _ _ c.if-k-children.true refl

pub returns-else-k-children : goal.returns-else-k-children
unfolding child_found
returns-else-k-children c = λ version nodes named strings. lt_no _ _ _ _ _ c.if-k-children.false refl
