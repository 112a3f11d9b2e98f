-- `answers::node::with_name` meets its contract.
use Rattle.names.specs.Names.{commands, operators, number_in}
use native.Mathlib.Omega.{arith}
use mathlib.Core.Path.{ap, ◌∙◌}
use Rattle.views.specs.Shown.{with_name}
use Rattle.answers.specs.RecordWords.{words_found, fields_of}
use Rattle.answers.proofs.Records.{command_found, operator_found, named_at_lem, text-named, pointer_named, assignment_named, reference-named}
use Rattle.answers.proofs.node.with_name.Goals as goal

pub returns-in-3 : goal.returns-in-3
unfolding with_name
returns-in-3 c =
    let a = c.args in
    let number = c.command_number in
    named_at_lem a.strings.now (fields_of a.tag 0 0 a.f2 a.f4) a.name 3 c.in-3.is _
    (ap words_found c.numbered.ensures ∙ command_found _ number.result (number.ensures ∙ ap (number_in commands) c.text_part-text.ensures))

pub returns-in-6 : goal.returns-in-6
unfolding with_name
returns-in-6 c =
    let a = c.args in
    let number = c.operator_number in
    named_at_lem a.strings.now (fields_of a.tag 0 0 a.f2 a.f4) a.name 6 c.in-6.is _
    (ap words_found c.numbered-in-6.ensures ∙ operator_found _ number.result (number.ensures ∙ ap (number_in operators) c.text_part-text.ensures))

pub returns-in-7 : goal.returns-in-7
returns-in-7 c = let a = c.args in text-named a.strings.now (fields_of a.tag 0 0 a.f2 a.f4) a.name _ c.in-7.is c.text_alone.ensures

pub returns-in-14 : goal.returns-in-14
returns-in-14 c = let a = c.args in pointer_named a.strings.now (fields_of a.tag 0 0 a.f2 a.f4) a.name _ c.in-14.is (omega arith) c.text_alone-in-14.ensures

pub returns-in-16 : goal.returns-in-16
returns-in-16 c = let a = c.args in assignment_named a.strings.now (fields_of a.tag 0 0 a.f2 a.f4) a.name _ c.in-16.is c.text_alone-in-16.ensures

pub returns-in_default : goal.returns-in_default
returns-in_default c =
    let a = c.args in
    let r = c.in_default.in_default-own.rest in
    reference-named a.strings.now (fields_of a.tag 0 0 a.f2 a.f4) a.name _ _ r.0.0.0.0.1 r.0.0.0.1 r.0.0.1 r.0.1 r.1 c.text_alone-in_default.ensures
