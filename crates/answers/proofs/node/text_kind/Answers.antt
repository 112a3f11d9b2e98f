-- `answers::node::text_kind` meets its contract.
use mathlib.Core.Path.{refl, ap, ◌∙◌}
use Rattle.answers.specs.RecordWords.{words_of_kind, fields_of}
use Rattle.answers.proofs.Records.{name-fields}
use Rattle.views.proofs.Tags.{text-absent, text-present}
use Rattle.answers.proofs.node.text_kind.Goals as goal

pub returns-in_err-name : goal.returns-in_err-name
returns-in_err-name c =
    let a = c.args in
    rw c.from_residual.ensures (ap words_of_kind (text-absent _ (fields_of a.tag a.f0 a.f1 a.f2 a.f4) _ _ c.optional_text.ensures c.in_err-name.was refl))

pub returns : goal.returns
returns c =
    let a = c.args in
    let fields = fields_of a.tag a.f0 a.f1 a.f2 a.f4 in
    let text = text-present a.strings.now fields _ _ c.optional_text.ensures _ c.in_ok-name.was refl in
    c.with_name.ensures ∙ ap words_of_kind (name-fields a.strings.now a.tag a.f0 a.f1 a.f2 a.f4 _ ∙ text)
