-- `views::view::kind_view` meets its contract.
use mathlib.Core.Path.{refl}
use mathlib.Core.Logic.{inl, inr}
use Rattle.records.specs.Fields.{kinds}
use Rattle.views.specs.View.{kind_view}
use Rattle.views.proofs.Tags.{at_tag, at_container, at_divert, at_list_lem, at_text, at_pointer, at_six, at_sixteen, at_unknown, from_six, fifteen, from_nineteen}
use borrow.Author.Rules.{rules}
use Rattle.views.proofs.view.kind_view.Goals as goal

pub returns-in-1 : goal.returns-in-1
returns-in-1 c = at_container _ _ _ _ c.in-1.is c.container.ensures

pub returns-in-2 : goal.returns-in-2
unfolding kind_view kinds
returns-in-2 c = search (rules, at_tag c.args.strings.now c.args.payload c.args.node 2 c.in-2.is)

pub returns-in-4 : goal.returns-in-4
returns-in-4 c = at_divert _ _ _ _ c.in-4.is c.divert.ensures

pub returns-in-5 : goal.returns-in-5
unfolding kind_view kinds
returns-in-5 c = at_tag c.args.strings.now c.args.payload c.args.node 5 c.in-5.is _ refl

pub returns-in-3 : goal.returns-in-3
returns-in-3 c = at_text _ _ _ _ c.text_kind.ensures c.in-3.is

pub returns-in-8 : goal.returns-in-8
unfolding kind_view kinds
returns-in-8 c = search (rules, at_tag c.args.strings.now c.args.payload c.args.node 8 c.in-8.is)

pub returns-in-9 : goal.returns-in-9
unfolding kind_view kinds
returns-in-9 c = search (rules, at_tag c.args.strings.now c.args.payload c.args.node 9 c.in-9.is)

pub returns-in-10 : goal.returns-in-10
unfolding kind_view kinds
returns-in-10 c = search (rules, at_tag c.args.strings.now c.args.payload c.args.node 10 c.in-10.is)

pub returns-in-12 : goal.returns-in-12
returns-in-12 c = at_list_lem _ _ _ _ c.in-12.is c.list.ensures

pub returns-in-14 : goal.returns-in-14
returns-in-14 c = at_pointer _ _ _ _ c.text_kind-in-14.ensures c.in-14.is

pub returns-in-18 : goal.returns-in-18
unfolding kind_view kinds
returns-in-18 c = at_tag c.args.strings.now c.args.payload c.args.node 18 c.in-18.is _ refl

pub returns-in-6-to-7 : goal.returns-in-6-to-7
returns-in-6-to-7 c = at_six _ _ _ _ c.text_kind-in-6-to-7.ensures (from_six _ c.in-6-to-7.in_default-own.rest c.in-6-to-7.if-node_tag-lt1-own.false) c.in-6-to-7.if-node_tag-lt8-own.true

pub returns-in-16-to-17 : goal.returns-in-16-to-17
returns-in-16-to-17 c = at_sixteen _ _ _ _ c.text_kind-in-16-to-17.ensures c.in-16-to-17.if-node_tag-lt16-own.false c.in-16-to-17.if-node_tag-lt18-own.true

pub returns-in_default : goal.returns-in_default
returns-in_default c = at_unknown _ _ _ (inl (search rules))

pub returns-in_default-2 : goal.returns-in_default-2
returns-in_default-2 c = at_unknown _ _ _ (inr (inl (fifteen _ c.in_default.in_default-own.rest c.in_default.if-node_tag-lt8-own.false c.in_default.if-node_tag-lt16-own.true)))

pub returns-in_default-3 : goal.returns-in_default-3
returns-in_default-3 c = at_unknown _ _ _ (inr (inr (from_nineteen _ c.in_default.in_default-own.rest c.in_default.if-node_tag-lt18-own.false)))
