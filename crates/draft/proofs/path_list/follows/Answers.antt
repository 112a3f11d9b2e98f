-- `draft::path_list::follows` meets its contract.
use mathlib.Core.Path.{sym, ◌∙◌}
use Rattle.draft.proofs.path_list.follows.Goals as goal

pub returns-then-is_listed : goal.returns-then-is_listed
returns-then-is_listed c = rw (sym c.is_listed.ensures ∙ c.if-is_listed.true) c.may_follow.ensures

pub returns-else-is_listed : goal.returns-else-is_listed
returns-else-is_listed c = rw (sym c.is_listed.ensures ∙ c.if-is_listed.false)
