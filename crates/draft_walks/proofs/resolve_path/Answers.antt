-- `draft_walks::resolve_path` meets its contract.
use mathlib.Core.Path.{◌∙◌}
use Rattle.draft_walks.proofs.SameWalks.{same-walk, walk-missing, walk-begun}
use Rattle.draft_walks.proofs.resolve_path.Goals as goal

pub returns-in_err-from : goal.returns-in_err-from
returns-in_err-from c = λ definitions items payload.
    c.from_residual.ensures ∙ same-walk _ _ _ _ definitions items payload _ _ _ _ _ (walk-missing _ _ _ _ _ (c.start_of.ensures _ _ _ _ _) c.in_err-from.was)

pub returns : goal.returns
returns c = λ definitions items payload.
    same-walk _ _ _ _ definitions items payload _ _ _ _ _ (walk-begun _ _ _ _ _ (c.start_of.ensures _ _ _ _ _) _ _ c.in_ok-from.was _ c.walk.ensures)
