-- `write_tree_sections::kinds::encode_kind` meets its contract.
use native.Mathlib.Omega.{arith}
use mathlib.Core.Logic.{inl, inr}
use mathlib.Core.Path.{◌∙◌}
use Rattle.write_tree_sections.proofs.ByTag.{at_container, at_choice, at_divert, at_text, at_text-range, at_number, at_list_lem, at_target, at_word, at_reference, at_blank}
use Rattle.write_tree_sections.proofs.kinds.encode_kind.Goals as goal

pub returns-in-1 : goal.returns-in-1
returns-in-1 c = c.container.ensures ∙ at_container _ _ _ _ _ c.in-1.is

pub returns-in-2 : goal.returns-in-2
returns-in-2 c = c.choice.ensures ∙ at_choice _ _ _ _ _ c.in-2.is

pub returns-in-4 : goal.returns-in-4
returns-in-4 c = c.divert.ensures ∙ at_divert _ _ _ _ _ c.in-4.is

pub returns-in-3 : goal.returns-in-3
returns-in-3 c = c.text_and.ensures ∙ at_text _ _ _ _ _ c.in-3.is

pub returns-in-12 : goal.returns-in-12
returns-in-12 c = c.two.ensures ∙ at_list_lem _ _ _ _ _ c.in-12.is

pub returns-in-13 : goal.returns-in-13
returns-in-13 c = c.text_and-in-13.ensures ∙ at_target _ _ _ _ _ c.in-13.is _ c.new_number.ensures

pub returns-in-14 : goal.returns-in-14
returns-in-14 c = c.text_and-in-14.ensures ∙ at_word _ _ _ _ _ c.in-14.is

pub returns-in-17 : goal.returns-in-17
returns-in-17 c = c.reference.ensures ∙ at_reference _ _ _ _ _ c.in-17.is

pub returns-in-6-to-7 : goal.returns-in-6-to-7
returns-in-6-to-7 c = c.text_and-in-6-to-7.ensures ∙ at_text-range _ _ _ _ _ c.in-6-to-7.if-kind-lt6-own.false c.in-6-to-7.if-kind-lt8-own.true

pub returns-in-8-to-10 : goal.returns-in-8-to-10
returns-in-8-to-10 c = c.two-in-8-to-10.ensures ∙ at_number _ _ _ _ _ c.in-8-to-10.if-kind-lt8-own.false c.in-8-to-10.if-kind-lt11-own.true

pub returns-in_default : goal.returns-in_default
returns-in_default c = c.blank.ensures ∙ at_blank _ _ _ _ _ c.in_default-1.rest
    (elim c.in_default.branch [
      | goal.in_default-via-then-kind-lt6 w ↦ inl (omega arith)
      | goal.in_default-via-else-kind-lt6+else-kind-lt8+else-kind-lt11 w ↦ inr (omega arith)
    ])
