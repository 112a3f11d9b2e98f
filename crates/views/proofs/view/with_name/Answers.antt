-- `views::view::with_name` meets its contract.
use mathlib.Core.Path.{refl, ap, ◌∙◌}
use Rattle.views.specs.Shown.{command_view, operator_view, with_name}
use Rattle.views.proofs.Tags.{name_at_lem, name-other}
use borrow.Author.Rules.{rules}
use Rattle.views.proofs.view.with_name.Goals as goal

pub returns-in-3 : goal.returns-in-3
unfolding with_name
returns-in-3 c = name_at_lem c.args.strings.now c.args.node c.args.name 3 c.in-3.is _ (c.command.ensures ∙ ap command_view c.text_part.ensures)

pub returns-in-6 : goal.returns-in-6
unfolding with_name
returns-in-6 c = name_at_lem c.args.strings.now c.args.node c.args.name 6 c.in-6.is _ (c.operator.ensures ∙ ap operator_view c.text_part-in-6.ensures)

pub returns-in-7 : goal.returns-in-7
unfolding with_name
returns-in-7 c = name_at_lem c.args.strings.now c.args.node c.args.name 7 c.in-7.is _ refl

pub returns-in-11 : goal.returns-in-11
unfolding with_name
returns-in-11 c = name_at_lem c.args.strings.now c.args.node c.args.name 11 c.in-11.is _ refl

pub returns-in-13 : goal.returns-in-13
unfolding with_name
returns-in-13 c = name_at_lem c.args.strings.now c.args.node c.args.name 13 c.in-13.is _ refl

pub returns-in-14 : goal.returns-in-14
unfolding with_name
returns-in-14 c = search (rules, name_at_lem c.args.strings.now c.args.node c.args.name 14 c.in-14.is)

pub returns-in-16 : goal.returns-in-16
unfolding with_name
returns-in-16 c = search (rules, name_at_lem c.args.strings.now c.args.node c.args.name 16 c.in-16.is)

pub returns-in_default : goal.returns-in_default
returns-in_default c = let r = c.in_default.in_default-own.rest in name-other _ _ _ _ r.0.0.0.0.0.0.1 r.0.0.0.0.0.1 r.0.0.0.0.1 r.0.0.0.1 r.0.0.1 r.0.1 r.1 _ c.optional_word.ensures
