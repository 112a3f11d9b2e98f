-- `walks::resolve_path` meets its contract.
use mathlib.Core.Path.{refl, ◌∙◌}
use Rattle.walks.proofs.Steps.{absolute, origin-missing, from-container, from-root, from-leaf, words_behind}
use Rattle.walks.proofs.resolve_path.Goals as goal

pub returns-then-not-relative : goal.returns-then-not-relative
returns-then-not-relative c = absolute _ _ _ _ _ _ c.if-not-relative.true-raw c.walk.ensures

pub returns-then-node-eq-CONTAINER : goal.returns-then-node-eq-CONTAINER
returns-then-node-eq-CONTAINER c = from-container _ _ _ _ _ _ c.if-not-relative.false-raw _ c.node_of.ensures _ c.in_ok-node.was c.if-node-eq-CONTAINER.true c.walk-then-node-eq-CONTAINER.ensures

pub returns-then-node : goal.returns-then-node
returns-then-node c = from-root _ _ _ _ _ _ c.if-not-relative.false-raw _ c.node_of.ensures _ c.in_ok-node.was c.if-node-eq-CONTAINER.false c.if-node.true refl

pub returns-in_err-node : goal.returns-in_err-node
returns-in_err-node c = c.from_residual.ensures ∙ origin-missing _ _ _ _ _ _ c.if-not-relative.false-raw _ c.node_of.ensures c.in_err-node.was refl

pub returns : goal.returns
returns c = from-leaf _ _ _ _ _ _ c.if-not-relative.false-raw _ c.node_of.ensures _ c.in_ok-node.was c.if-node-eq-CONTAINER.false c.if-node.false (rw (words_behind _ 3 _ c.min-behind.ensures) at c.walk-2.ensures)
