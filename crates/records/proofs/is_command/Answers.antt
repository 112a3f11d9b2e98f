-- `records::is_command` meets its contract.
use mathlib.Core.Path.{◌∙◌}
use Rattle.records.proofs.Texts.{known-held}
use Rattle.records.proofs.is_command.Goals as goal

pub returns : goal.returns
returns c = c.is_some.ensures ∙ known-held _ _ _ c.command_number.ensures
