-- `story_image::spelling::story_image_command_name` meets its contract.
use mathlib.Core.Path.{sym, ◌∙◌}
use mathlib.Core.List.{[]}
use lib.ListN.{get_or}
use Rattle.names.specs.Names.{commands}
use Rattle.names.specs.ControlCommand.{command_number}
use Rattle.names.proofs.Commands.{commands_numbered, below}
use Rattle.answers.proofs.LentSlices.{unspelled, spelled_as}
use Rattle.story_image.proofs.NameTexts.{name-fits, command_short, command_count, past-names, some-kind, kind-spelled}
use Rattle.story_image.proofs.spelling.story_image_command_name.Goals as goal

pub returns-then-number-ge26 : goal.returns-then-number-ge26
returns-then-number-ge26 c = unspelled _ _ _ (past-names commands_numbered 26 command_count _ c.if-number-ge26.true)

pub put_name-requires : goal.put_name-requires
put_name-requires c =
    let a = c.in-Some.command in
    name-fits _ (get_or commands (command_number a) []) c.get_name.ensures (command_short (command_number a) (below a))

pub returns-in-None : goal.returns-in-None
returns-in-None c = absurd (some-kind commands_numbered 26 command_count _ c.if-number-ge26.false (sym c.in-None.is ∙ c.command_of.ensures))

pub returns-in-Some : goal.returns-in-Some
returns-in-Some c =
    let kind = sym c.in-Some.is ∙ c.command_of.ensures in
    let text = kind-spelled commands_numbered 26 command_count _ c.if-number-ge26.false _ kind _ c.get_name.ensures in
    spelled_as _ _ _ _ _ _ _ text c.put_name.ensures
