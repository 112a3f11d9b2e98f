-- `draft::path_list::window_for` meets its contract.
use mathlib.Core.Path.{sym, ◌∙◌}
use mathlib.Core.Bool.{true≢false}
use Rattle.draft.proofs.path_list.window_for.Goals as goal

pub returns-then-rises : goal.returns-then-rises
returns-then-rises c = λ e. absurd (true≢false (sym c.if-rises.true ∙ e))

pub returns-then-i-eq0 : goal.returns-then-i-eq0
returns-then-i-eq0 c = λ e. c.fill_window.ensures.marks

pub returns-else-i-eq0 : goal.returns-else-i-eq0
returns-else-i-eq0 c = c.requires c.if-i-eq0.false
