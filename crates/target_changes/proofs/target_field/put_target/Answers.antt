-- `target_changes::target_field::put_target` meets its contract.
use Rattle.target_changes.proofs.WordSteps.{put_fourth, put_second}
use Rattle.target_changes.proofs.target_field.put_target.Goals as goal

pub returns-then-node_tag-eq-REFERENCE : goal.returns-then-node_tag-eq-REFERENCE
returns-then-node_tag-eq-REFERENCE c = put_fourth c.args.nodes.now c.args.at c.args.node_tag c.args.target c.if-node_tag-eq-REFERENCE.true

pub returns : goal.returns
returns c = put_second c.args.nodes.now c.args.at c.args.node_tag c.args.target c.if-node_tag-eq-REFERENCE.false
