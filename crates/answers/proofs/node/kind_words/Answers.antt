-- `answers::node::kind_words` meets its contract.
use native.Mathlib.Omega.{arith}
use mathlib.Core.Logic.{inl, inr}
use mathlib.Core.Path.{refl, ap, ◌∙◌}
use Rattle.answers.specs.RecordWords.{words_of_kind}
use Rattle.views.proofs.Tags.{at_container, at_divert, at_list_lem, at_unknown}
use Rattle.answers.proofs.Records.{choice-viewed, glue_viewed, bool_viewed, int_viewed, float_viewed, void-viewed, text-fields}
use Rattle.pages.proofs.TextTags.{from_nineteen, text_single, text-below, text-above}
use borrow.Author.Rules.{rules}
use Rattle.answers.proofs.node.kind_words.Goals as goal

pub returns-in-1 : goal.returns-in-1
returns-in-1 c =
    let a = c.args in
    c.container.ensures ∙ ap words_of_kind (at_container a.strings.now a.payload a.node _ c.in-1.is refl)

pub returns-in-2 : goal.returns-in-2
returns-in-2 c = let a = c.args in choice-viewed a.strings.now a.payload a.node _ c.in-2.is (omega arith) _ c.no_span.ensures c.text_alone.ensures

pub returns-in-4 : goal.returns-in-4
returns-in-4 c =
    let a = c.args in
    c.divert.ensures ∙ ap words_of_kind (at_divert a.strings.now a.payload a.node _ c.in-4.is refl)

pub returns-in-5 : goal.returns-in-5
returns-in-5 c = let a = c.args in glue_viewed a.strings.now a.payload a.node _ c.in-5.is c.value_alone.ensures

pub returns-in-8 : goal.returns-in-8
returns-in-8 c = let a = c.args in bool_viewed a.strings.now a.payload a.node _ c.in-8.is _ c.bit_of.ensures c.value_alone-in-8.ensures

pub returns-in-9 : goal.returns-in-9
returns-in-9 c = let a = c.args in int_viewed a.strings.now a.payload a.node _ c.in-9.is (omega arith) c.value_alone-in-9.ensures

pub returns-in-10 : goal.returns-in-10
returns-in-10 c = let a = c.args in float_viewed a.strings.now a.payload a.node _ c.in-10.is c.value_alone-in-10.ensures

pub returns-in-12 : goal.returns-in-12
returns-in-12 c =
    let a = c.args in
    c.list.ensures ∙ ap words_of_kind (at_list_lem a.strings.now a.payload a.node _ c.in-12.is refl)

pub returns-in-18 : goal.returns-in-18
returns-in-18 c = let a = c.args in void-viewed a.strings.now a.payload a.node _ c.in-18.is c.value_alone-in-18.ensures

pub returns-in_default : goal.returns-in_default
returns-in_default c = let a = c.args in ap words_of_kind (at_unknown a.strings.now a.payload a.node (inl (search rules)))

pub returns-in_default-2 : goal.returns-in_default-2
returns-in_default-2 c =
    let a = c.args in
    ap words_of_kind (at_unknown a.strings.now a.payload a.node (inr (inl (omega arith))))

pub returns-in_default-3 : goal.returns-in_default-3
returns-in_default-3 c =
    let a = c.args in
    ap words_of_kind (at_unknown a.strings.now a.payload a.node (inr (inr (from_nineteen _ c.in_default.in_default-own.rest c.in_default.if-tag-lt18-own.false))))

pub returns-in-3 : goal.returns-in-3
returns-in-3 c =
    let a = c.args in
    c.text_kind.ensures
    ∙ ap words_of_kind
    (text-fields a.strings.now a.node
    ∙ elim c.in-3-1.branch [
      | goal.in-3-1 w ↦ text_single a.strings.now a.payload a.node w.in-3-1.keys9
      | goal.in_default+else-tag-lt1+then-tag-lt15 w ↦ text-below a.strings.now a.payload a.node w.in_default-1.rest (omega arith) (omega arith)
      | goal.in_default+else-tag-lt1+else-tag-lt15+else-tag-lt16+then-tag-lt18 w ↦ text-above a.strings.now a.payload a.node (omega arith) (omega arith)
    ])
