-- `lookups::find_named_child` meets its contract.
use mathlib.Core.Path.{◌∙◌}
use Rattle.lookups.proofs.Lookups.{find-missing, find-found, named-part, strings-part}
use Rattle.lookups.proofs.find_named_child.Goals as goal

pub returns-in_err-container : goal.returns-in_err-container
returns-in_err-container c = c.from_residual.ensures ∙ find-missing _ _ _ _ c.container_of.ensures c.in_err-container.was

pub returns : goal.returns
returns c = find-found _ _ _ _ c.container_of.ensures _ c.in_ok-container.was _ _ (named-part _ _ _ c.section_part.ensures) (strings-part _ _ _ c.section_part-2.ensures) _ c.named_by.ensures
