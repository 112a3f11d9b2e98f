-- `draft_walks::find_named_child` meets its contract.
use Rattle.lookups.proofs.Lookups.{find-missing, find-found}
use mathlib.Core.Path.{refl, ◌∙◌}
use Rattle.draft_walks.proofs.find_named_child.Goals as goal

pub returns-in_err-container : goal.returns-in_err-container
returns-in_err-container c = λ children. c.from_residual.ensures ∙ find-missing _ _ _ _ (c.container_of.ensures children _ _) c.in_err-container.was

pub returns : goal.returns
returns c = λ children. find-found _ _ _ _ (c.container_of.ensures children _ _) _ c.in_ok-container.was _ _ refl refl _ c.named_by.ensures
