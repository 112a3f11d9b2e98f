-- `target_changes::move_target` meets its contract.
use native.Mathlib.Omega.{arith}
use mathlib.Core.Path.{◌∙◌}
use Rattle.image.proofs.Refused.{none-refused, refused-alike, some-refused}
use Rattle.target_counts.proofs.Counting.{nodes_alone}
use Rattle.target_changes.proofs.Moves.{move_outside, move_inside, move_forbidden, move_stuck, move_steps, move_done, node-begins, node-room}
use Rattle.target_changes.proofs.move_target.Goals as goal

pub returns-then-not-is_inside : goal.returns-then-not-is_inside
returns-then-not-is_inside c = let to = c.args in
    let s = nodes_alone to.source.version to.nodes.now in
    move_outside s to.summary.now to.node to.target c.requires _ c.node_count-count.ensures _ c.is_inside.ensures c.if-not-is_inside.true-raw

pub node_at-record-requires : goal.node_at-record-requires
node_at-record-requires c = let to = c.args in
    let s = nodes_alone to.source.version to.nodes.now in
    move_inside s to.summary.now to.node to.target c.requires _ c.node_count-count.ensures _ c.is_inside.ensures c.if-not-is_inside.false-raw

pub returns-then-not-is_allowed : goal.returns-then-not-is_allowed
returns-then-not-is_allowed c = let to = c.args in
    let s = nodes_alone to.source.version to.nodes.now in
    move_forbidden s to.summary.now to.node to.target c.requires _ c.node_count-count.ensures _ c.is_inside.ensures c.if-not-is_inside.false-raw _ c.node_at-record.ensures _ c.tag_at-target_tag.ensures _ c.is_allowed.ensures c.if-not-is_allowed.true-raw

pub returns-in_err-step_rule : goal.returns-in_err-step_rule
returns-in_err-step_rule c = let to = c.args in
    let s = nodes_alone to.source.version to.nodes.now in
    rw (refused-alike _ _ _ c.in_err-step_rule.was c.from_residual.ensures.1) (move_stuck s to.summary.now to.node to.target c.requires _ c.node_count-count.ensures _ c.is_inside.ensures c.if-not-is_inside.false-raw _ c.node_at-record.ensures _ c.tag_at-target_tag.ensures _ c.is_allowed.ensures c.if-not-is_allowed.false-raw _ c.target_of-old.ensures _ c.step_rule.ensures (some-refused _ _ c.in_err-step_rule.was))

pub overflow_mul-node : goal.overflow_mul-node
overflow_mul-node c = let to = c.args in
    let s = nodes_alone to.source.version to.nodes.now in
    let m = node-begins s to.node _ (omega (arith, c.ranges.node)) c.node_words.ensures in omega (arith, m)

pub put_target-requires : goal.put_target-requires
put_target-requires c = let to = c.args in
    let s = nodes_alone to.source.version to.nodes.now in
    node-room s to.node _ (move_inside s to.summary.now to.node to.target c.requires _ c.node_count-count.ensures _ c.is_inside.ensures c.if-not-is_inside.false-raw) c.node_words.ensures

pub step-requires : goal.step-requires
step-requires c = let to = c.args in
    let s = nodes_alone to.source.version to.nodes.now in
    move_steps s to.summary.now to.node to.target c.requires _ c.node_count-count.ensures _ c.is_inside.ensures c.if-not-is_inside.false-raw _ c.node_at-record.ensures _ c.tag_at-target_tag.ensures _ c.is_allowed.ensures c.if-not-is_allowed.false-raw _ c.target_of-old.ensures _ c.step_rule.ensures (none-refused _ _ c.in_ok-step_rule.was)

pub returns : goal.returns
returns c = let to = c.args in
    let s = nodes_alone to.source.version to.nodes.now in
    move_done s to.summary.now to.node to.target c.requires _ c.node_count-count.ensures _ c.is_inside.ensures c.if-not-is_inside.false-raw _ c.node_at-record.ensures _ c.tag_at-target_tag.ensures _ c.is_allowed.ensures c.if-not-is_allowed.false-raw _ c.target_of-old.ensures _ c.step_rule.ensures (none-refused _ _ c.in_ok-step_rule.was) _ c.node_words.ensures _ _ c.put_target.ensures c.step.ensures
