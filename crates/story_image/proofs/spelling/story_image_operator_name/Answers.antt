-- `story_image::spelling::story_image_operator_name` meets its contract.
use mathlib.Core.Path.{sym, ◌∙◌}
use mathlib.Core.List.{[]}
use lib.ListN.{get_or}
use Rattle.names.specs.Names.{operators}
use Rattle.names.specs.NativeFunctionCall.{operator_number}
use Rattle.names.proofs.Operators.{operators_numbered, below}
use Rattle.answers.proofs.LentSlices.{unspelled, spelled_as}
use Rattle.story_image.proofs.NameTexts.{name-fits, operator_short, operator_count, past-names, some-kind, kind-spelled}
use Rattle.story_image.proofs.spelling.story_image_operator_name.Goals as goal

pub returns-then-number-ge31 : goal.returns-then-number-ge31
returns-then-number-ge31 c = unspelled _ _ _ (past-names operators_numbered 31 operator_count _ c.if-number-ge31.true)

pub put_name-requires : goal.put_name-requires
put_name-requires c =
    let a = c.in-Some.op in
    name-fits _ (get_or operators (operator_number a) []) c.get_name.ensures (operator_short (operator_number a) (below a))

pub returns-in-None : goal.returns-in-None
returns-in-None c = absurd (some-kind operators_numbered 31 operator_count _ c.if-number-ge31.false (sym c.in-None.is ∙ c.operator_of.ensures))

pub returns-in-Some : goal.returns-in-Some
returns-in-Some c =
    let kind = sym c.in-Some.is ∙ c.operator_of.ensures in
    let text = kind-spelled operators_numbered 31 operator_count _ c.if-number-ge31.false _ kind _ c.get_name.ensures in
    spelled_as _ _ _ _ _ _ _ text c.put_name.ensures
