-- `pages::viewed::has_kind` meets its contract.
use mathlib.Core.Path.{refl}
use mathlib.Core.Logic.{inl, inr}
use native.Mathlib.Omega.{arith}
use Rattle.records.specs.Fields.{kinds}
use Rattle.views.specs.View.{kind_view}
use Rattle.pages.proofs.TextTags.{from_nineteen, text_single, text-below, text-above}
use Rattle.pages.proofs.HasKind.{plain-kind, divert-kind, list-kind, no_kind, text-kind}
use borrow.Author.Rules.{rules}
use Rattle.pages.proofs.viewed.has_kind.Goals as goal
use Rattle.pages.proofs.viewed.has_kind.Goals.{in-3-1, in_default+else-tag-lt1+then-tag-lt15, in_default+else-tag-lt1+else-tag-lt15+else-tag-lt16+then-tag-lt18}

pub returns-in-1 : goal.returns-in-1
unfolding kind_view kinds
returns-in-1 c = let a = c.args in plain-kind a.strings.now a.payload a.node 1 c.in-1.is refl

pub returns-in-2 : goal.returns-in-2
unfolding kind_view kinds
returns-in-2 c = let a = c.args in plain-kind a.strings.now a.payload a.node 2 c.in-2.is refl

pub returns-in-4 : goal.returns-in-4
returns-in-4 c = let a = c.args in divert-kind a.strings.now a.payload a.node c.in-4.is _ c.push_type_known.ensures

pub returns-in-5 : goal.returns-in-5
unfolding kind_view kinds
returns-in-5 c = let a = c.args in plain-kind a.strings.now a.payload a.node 5 c.in-5.is refl

pub returns-in-8 : goal.returns-in-8
unfolding kind_view kinds
returns-in-8 c = let a = c.args in plain-kind a.strings.now a.payload a.node 8 c.in-8.is refl

pub returns-in-9 : goal.returns-in-9
unfolding kind_view kinds
returns-in-9 c = let a = c.args in plain-kind a.strings.now a.payload a.node 9 c.in-9.is refl

pub returns-in-10 : goal.returns-in-10
unfolding kind_view kinds
returns-in-10 c = let a = c.args in plain-kind a.strings.now a.payload a.node 10 c.in-10.is refl

pub returns-in-12 : goal.returns-in-12
returns-in-12 c = let a = c.args in list-kind a.strings.now a.payload a.node c.in-12.is _ c.list_inside.ensures

pub returns-in-18 : goal.returns-in-18
unfolding kind_view kinds
returns-in-18 c = let a = c.args in plain-kind a.strings.now a.payload a.node 18 c.in-18.is refl

pub returns-in_default : goal.returns-in_default
returns-in_default c = let a = c.args in no_kind a.strings.now a.payload a.node (inl (search rules))

pub returns-in_default-2 : goal.returns-in_default-2
returns-in_default-2 c = let a = c.args in no_kind a.strings.now a.payload a.node (inr (inl (omega arith)))

pub returns-in_default-3 : goal.returns-in_default-3
returns-in_default-3 c = let a = c.args in no_kind a.strings.now a.payload a.node (inr (inr (from_nineteen _ c.in_default.in_default-own.rest c.in_default.if-tag-lt18-own.false)))

pub returns-in-3 : goal.returns-in-3
returns-in-3 c =
    let a = c.args in
    text-kind a.strings.now a.payload a.node _ c.text_fits.ensures
    (elim c.in-3-1.branch [
      | in-3-1 w ↦ text_single a.strings.now a.payload a.node w.in-3-1.keys9
      | in_default+else-tag-lt1+then-tag-lt15 w ↦ text-below a.strings.now a.payload a.node w.in_default-1.rest (omega arith) (omega arith)
      | in_default+else-tag-lt1+else-tag-lt15+else-tag-lt16+then-tag-lt18 w ↦ text-above a.strings.now a.payload a.node (omega arith) (omega arith)
    ])
