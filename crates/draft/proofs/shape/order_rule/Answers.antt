-- `draft::shape::order_rule` meets its contract.
use Rattle.draft.proofs.Relations.{definition-falls, items-range, items-rise, items_fall}
use Rattle.draft.proofs.shape.order_rule.Goals as goal

pub returns-then-not-definition_rises : goal.returns-then-not-definition_rises
returns-then-not-definition_rises c = let pre = c.requires in definition-falls _ _ _ pre.0 _ pre.1 _ c.definition_rises.ensures c.if-not-definition_rises.true-raw

pub items_rise-requires : goal.items_rise-requires
items_rise-requires c =
    let pre = c.requires in
    items-range _ _ _ pre.0 _ pre.1 _ c.definition_rises.ensures c.if-not-definition_rises.false-raw _ c.definition_at-definition.ensures

pub returns-then-items_rise : goal.returns-then-items_rise
returns-then-items_rise c =
    let pre = c.requires in
    items-rise _ _ _ pre.0 _ pre.1 _ c.definition_rises.ensures c.if-not-definition_rises.false-raw _ c.definition_at-definition.ensures _
    c.items_rise.ensures c.if-items_rise.true

pub returns-else-items_rise : goal.returns-else-items_rise
returns-else-items_rise c =
    let pre = c.requires in
    items_fall _ _ _ pre.0 _ pre.1 _ c.definition_rises.ensures c.if-not-definition_rises.false-raw _ c.definition_at-definition.ensures _
    c.items_rise.ensures c.if-items_rise.false
