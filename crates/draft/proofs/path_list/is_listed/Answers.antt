-- `draft::path_list::is_listed` meets its contract.
use mathlib.Core.Path.{refl, ◌∙◌}
use Rattle.draft.proofs.PathLists.{hinted_listed}
use Rattle.draft.proofs.path_list.is_listed.Goals as goal

pub returns-then-hint : goal.returns-then-hint
returns-then-hint c = let to = c in hinted_listed _ _ to.args.hint to.requires.0 c.if-hint.true _ c.is_of.ensures

pub returns-else-hint : goal.returns-else-hint
returns-else-hint c = c.is_marked.ensures ∙ c.requires.1 c.if-hint.false _ refl
