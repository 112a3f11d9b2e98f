-- `load::nodes::node_rule` meets its contract: the parent's rule, then the fields'.
use mathlib.Core.Path.{◌∙◌}
use Rattle.image.proofs.Refused.{none-refused, refused-alike, some-refused}
use Rattle.load.proofs.NodeLoop.{parent-broken, parent-kept}
use Rattle.load.proofs.nodes.node_rule.Goals as goal

pub returns-in_err-parent_rule : goal.returns-in_err-parent_rule
returns-in_err-parent_rule c = refused-alike _ _ _ c.in_err-parent_rule.was c.from_residual.ensures.1 ∙ (parent-broken _ _ _ _ _ _ _ _ _ _ c.tag_at.ensures c.parent_rule.ensures (some-refused _ _ c.in_err-parent_rule.was))

pub returns : goal.returns
returns c =
    let parent = c in
    parent-kept _ _ _ _ _ _ _ _ _ _ parent.tag_at.ensures parent.parent_rule.ensures (none-refused _ _ c.in_ok-parent_rule.was) _ _ _
    c.target_of.ensures c.tag_at-2.ensures c.fields_rule.ensures
