-- `write_tree_sections::texts_used::texts_of` meets its contract.
use mathlib.Core.Path.{◌∙◌}
use native.Mathlib.Omega.{arith}
use Rattle.write_tree_sections.proofs.TextCounts.{at_container, at_choice, at_divert, at_list_lem, at_reference, at_one, at_one_more, at_none}
use Rattle.write_tree_sections.proofs.Records.{count_small}
use Rattle.write_tree_sections.proofs.texts_used.texts_of.Goals as goal

pub overflow_add-result : goal.overflow_add-result
overflow_add-result c =
    let to = c.args in
    omega (arith, c.text_count-in-4-2.ensures, c.text_count-in-4.ensures, count_small to.node.f0, count_small to.node.f3)

pub overflow_add-result-in-17 : goal.overflow_add-result-in-17
overflow_add-result-in-17 c = omega (arith, c.text_count-in-17.ensures, count_small c.args.node.f2)

pub returns-in-1 : goal.returns-in-1
returns-in-1 c = c.text_count.ensures ∙ at_container _ _ c.in-1.is

pub returns-in-2 : goal.returns-in-2
returns-in-2 c = c.text_count-in-2.ensures ∙ at_choice _ _ c.in-2.is

pub returns-in-4 : goal.returns-in-4
returns-in-4 c = at_divert _ _ c.in-4.is _ _ c.text_count-in-4.ensures c.text_count-in-4-2.ensures

pub returns-in-12 : goal.returns-in-12
returns-in-12 c = c.list_texts.ensures ∙ at_list_lem _ _ c.in-12.is

pub returns-in-17 : goal.returns-in-17
returns-in-17 c = at_reference _ _ c.in-17.is _ c.text_count-in-17.ensures

pub returns-in-3 : goal.returns-in-3
returns-in-3 c = at_one _ _ c.in-3.is

pub returns-in-7 : goal.returns-in-7
returns-in-7 c = at_one_more _ _ c.in-7.is

pub returns-in_default : goal.returns-in_default
returns-in_default c = at_none _ _ c.in_default.in_default-own.rest
