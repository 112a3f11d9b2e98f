-- `notes::hidden_view` meets its contract.
use mathlib.Core.Path.{sym, ◌∙◌}
use Rattle.image.proofs.Views.{strings_by}
use Rattle.notes.proofs.Hiding.{hidden-missing, hidden-there}
use borrow.Author.Rules.{rules}
use Rattle.notes.proofs.hidden_view.Goals as goal

pub returns-in_err-node : goal.returns-in_err-node
returns-in_err-node c = c.from_residual.ensures ∙ search (rules, hidden-missing)

pub returns : goal.returns
returns c = hidden-there _ _ _ c.node_view.ensures _ c.in_ok-node.was _ (c.section_part-strings.ensures ∙ sym (strings_by _ _)) _ c.hide_note-seen.ensures
