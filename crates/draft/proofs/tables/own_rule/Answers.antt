-- `draft::tables::own_rule` meets its contract.
use mathlib.Core.Path.{◌∙◌}
use mathlib.Core.Logic.{inl}
use borrow.Author.Rules.{rules}
use Rattle.records.proofs.ByKind.{at_container, at_divert, at_empty, at_text, at_text-range, at_bool, at_number, at_list_lem, at_target, at_assignment, at_unknown, from_six, from_nine, no_kind}
use Rattle.draft.proofs.NodeTable.{own_choice, own_reference}
use Rattle.draft.proofs.tables.own_rule.Goals as goal

pub returns-in-1 : goal.returns-in-1
returns-in-1 c = c.container.ensures ∙ at_container _ _ _ _ _ _ c.in-1.is

pub returns-in-2 : goal.returns-in-2
returns-in-2 c = own_choice _ _ _ _ _ _ _ _ c.in-2.is c.tag_at.ensures c.choice.ensures

pub returns-in-4 : goal.returns-in-4
returns-in-4 c = c.divert.ensures ∙ at_divert _ _ _ _ _ _ c.in-4.is

pub returns-in-5 : goal.returns-in-5
returns-in-5 c = at_empty _ _ _ _ _ _ c.in-5.is

pub returns-in-3 : goal.returns-in-3
returns-in-3 c = c.text_only.ensures ∙ at_text _ _ _ _ _ _ c.in-3.is

pub returns-in-8 : goal.returns-in-8
returns-in-8 c = c.at_most.ensures ∙ at_bool _ _ _ _ _ _ c.in-8.is

pub returns-in-12 : goal.returns-in-12
returns-in-12 c = c.list_value.ensures ∙ at_list_lem _ _ _ _ _ _ c.in-12.is

pub returns-in-13 : goal.returns-in-13
returns-in-13 c = c.target_value.ensures ∙ at_target _ _ _ _ _ _ c.in-13.is

pub returns-in-16 : goal.returns-in-16
returns-in-16 c = c.assignment.ensures ∙ at_assignment _ _ _ _ _ _ c.in-16.is

pub returns-in-17 : goal.returns-in-17
returns-in-17 c = own_reference _ _ _ _ _ _ _ _ c.in-17.is c.tag_at-in-17.ensures c.reference.ensures

pub returns-in-6-to-7 : goal.returns-in-6-to-7
returns-in-6-to-7 c = c.text_only-in-6-to-7.ensures ∙ at_text-range _ _ _ _ _ _ (from_six _ c.in-6-to-7.in_default-own.rest c.in-6-to-7.if-node_tag-lt1-own.false) (search rules)

pub returns-in-9-to-10 : goal.returns-in-9-to-10
returns-in-9-to-10 c = at_number _ _ _ _ _ _ (from_nine _ c.in-9-to-10.in_default-own.rest c.in-9-to-10.if-node_tag-lt8-own.false) (search rules)

pub returns-in_default : goal.returns-in_default
returns-in_default c = at_unknown _ _ _ _ _ _ (inl (search rules))

pub returns-in_default-2 : goal.returns-in_default-2
returns-in_default-2 c = at_unknown _ _ _ _ _ _ (no_kind _ c.in_default.in_default-own.rest c.in_default.if-node_tag-lt11-own.false)
