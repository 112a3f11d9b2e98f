-- `static_targets::tree_rule` meets its contract.
use mathlib.Core.Path.{sym, ◌∙◌}
use mathlib.Core.List.{[]}
use borrow.Author.Tests.{eqb-true, not-true, not-false}
use Rattle.static_targets.proofs.Steps.{shape_asks, tree_asks, number_asks, unreached, shape-decides}
use Rattle.static_targets.proofs.tree_rule.Goals as goal

pub stands-requires : goal.stands-requires
stands-requires c =
    let to = c.args in
    let asked = c.requires in
    tree_asks to.source.version to.draft.nodes.now to.draft.children.now to.draft.named.now to.draft.definitions.now to.draft.items.now to.draft.payload.now to.draft.strings.now to.paths.now [] [] asked.0 _ asked.1

pub returns-then-stands : goal.returns-then-stands
returns-then-stands c = sym (eqb-true _ 0 (sym c.stands.ensures ∙ c.if-stands.true))

pub number-requires : goal.number-requires
number-requires c =
    let to = c.args in
    let asked = c.requires in
    number_asks to.source.version to.draft.nodes.now to.draft.children.now to.draft.named.now to.draft.definitions.now to.draft.items.now to.draft.payload.now to.draft.strings.now to.paths.now [] [] asked.0 c.stands.new.work (c.stands.auto.work ∙ asked.1) _ c.node_count.ensures

pub returns-then-not-number : goal.returns-then-not-number
returns-then-not-number c =
    let to = c.args in
    unreached to.source.version to.draft.nodes.now to.draft.children.now to.draft.named.now to.draft.definitions.now to.draft.items.now to.draft.payload.now to.draft.strings.now to.paths.now [] [] c.requires.0 _ c.number.ensures.answer (not-true _ c.if-not-number.true-raw)

pub shape_rule-requires : goal.shape_rule-requires
shape_rule-requires c =
    let to = c.args in
    shape_asks to.source.version to.draft.nodes.now to.draft.children.now to.draft.named.now to.draft.definitions.now to.draft.items.now to.draft.payload.now to.draft.strings.now to.paths.now [] [] c.requires.0

pub returns : goal.returns
returns c =
    let to = c.args in
    shape-decides to.source.version to.draft.nodes.now to.draft.children.now to.draft.named.now to.draft.definitions.now to.draft.items.now to.draft.payload.now to.draft.strings.now to.paths.now [] [] c.requires.0 _ c.number.ensures.answer (not-false _ c.if-not-number.false-raw) _ c.shape_rule.ensures
