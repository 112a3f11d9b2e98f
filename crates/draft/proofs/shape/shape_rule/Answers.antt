-- `draft::shape::shape_rule` meets its contract.
use mathlib.Core.Path.{◌∙◌}
use Rattle.image.proofs.Refused.{none-refused, refused-alike, some-refused}
use Rattle.records.proofs.ByKind.{shown-root}
use Rattle.draft.proofs.NodeTable.{node_is}
use Rattle.draft.proofs.Row21.{tree-passed, lists-passed, wrong-root, wrong_relation, orders_decide}
use Rattle.draft.proofs.shape.shape_rule.Goals as goal

pub node_at-requires : goal.node_at-requires
node_at-requires c = c.requires.some

pub returns-then-not-root_right : goal.returns-then-not-root_right
returns-then-not-root_right c = wrong-root _ _ _ _ _ _ _ _ _ (c.root_right.ensures ∙ shown-root _ _ (node_is _ _ _ _ _ _ _ _ _ _ c.node_at.ensures)) c.if-not-root_right.true-raw

pub relations_rule-requires : goal.relations_rule-requires
relations_rule-requires c = tree-passed _ _ _ _ _ _ _ _ c.requires

pub returns-in_err-relations_rule : goal.returns-in_err-relations_rule
returns-in_err-relations_rule c = refused-alike _ _ _ c.in_err-relations_rule.was c.from_residual.ensures.1 ∙ (wrong_relation _ _ _ _ _ _ _ _ _ (c.root_right.ensures ∙ shown-root _ _ (node_is _ _ _ _ _ _ _ _ _ _ c.node_at.ensures)) c.if-not-root_right.false-raw _
    c.relations_rule.ensures (some-refused _ _ c.in_err-relations_rule.was))

pub orders_rule-requires : goal.orders_rule-requires
orders_rule-requires c = lists-passed _ _ _ _ _ _ _ _ c.requires

pub returns : goal.returns
returns c =
    orders_decide _ _ _ _ _ _ _ _ _ (c.root_right.ensures ∙ shown-root _ _ (node_is _ _ _ _ _ _ _ _ _ _ c.node_at.ensures)) c.if-not-root_right.false-raw _
    c.relations_rule.ensures (none-refused _ _ c.in_ok-relations_rule.was) _ c.orders_rule.ensures
