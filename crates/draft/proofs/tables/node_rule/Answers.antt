-- `draft::tables::node_rule` meets its contract.
use mathlib.Core.Path.{refl}
use Rattle.laws.proofs.Chains.{stop, go}
use Rattle.draft.proofs.NodeTable.{parent-root, parent-inside, parent-outside}
use Rattle.draft.proofs.tables.node_rule.Goals as goal

pub returns-then-not-fields_right : goal.returns-then-not-fields_right
returns-then-not-fields_right c = stop _ _ 19 _ refl c.fields_right.ensures c.if-not-fields_right.true-raw

pub returns-then-i-eq0 : goal.returns-then-i-eq0
returns-then-i-eq0 c = go _ _ 19 _ _ c.fields_right.ensures c.if-not-fields_right.false-raw (parent-root _ _ c.if-i-eq0.true)

pub returns-then-is_inside : goal.returns-then-is_inside
returns-then-is_inside c =
    let at = c in
    go _ _ 19 _ _ at.fields_right.ensures at.if-not-fields_right.false-raw (parent-inside _ _ c.if-i-eq0.false _ c.is_inside.ensures c.if-is_inside.true)

pub returns-else-is_inside : goal.returns-else-is_inside
returns-else-is_inside c =
    let at = c in
    go _ _ 19 _ _ at.fields_right.ensures at.if-not-fields_right.false-raw (parent-outside _ _ c.if-i-eq0.false _ c.is_inside.ensures c.if-is_inside.false)
