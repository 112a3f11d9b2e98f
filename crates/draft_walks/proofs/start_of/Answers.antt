-- `draft_walks::start_of` meets its contract.
use mathlib.Core.Path.{refl, ◌∙◌}
use Rattle.walks.proofs.Steps.{absolute, origin-missing, from-container, from-root, from-leaf}
use Rattle.draft_walks.proofs.start_of.Goals as goal

pub returns-then-not-relative : goal.returns-then-not-relative
returns-then-not-relative c = λ children named strings names path. absolute _ _ _ _ _ _ c.if-not-relative.true-raw refl

pub returns-then-node-eq-CONTAINER : goal.returns-then-node-eq-CONTAINER
returns-then-node-eq-CONTAINER c = λ children named strings names path.
    from-container _ _ _ _ _ _ c.if-not-relative.false-raw _ (c.node_of.ensures _ _ _) _ c.in_ok-node.was c.if-node-eq-CONTAINER.true refl

pub returns-then-node : goal.returns-then-node
returns-then-node c = λ children named strings names path.
    from-root _ _ _ _ _ _ c.if-not-relative.false-raw _ (c.node_of.ensures _ _ _) _ c.in_ok-node.was c.if-node-eq-CONTAINER.false c.if-node.true refl

pub returns-in_err-node : goal.returns-in_err-node
returns-in_err-node c = λ children named strings names path.
    rw c.from_residual.ensures (origin-missing _ _ _ _ _ _ c.if-not-relative.false-raw _ (c.node_of.ensures _ _ _) c.in_err-node.was refl)

pub returns : goal.returns
returns c = λ children named strings names path.
    from-leaf _ _ _ _ _ _ c.if-not-relative.false-raw _ (c.node_of.ensures _ _ _) _ c.in_ok-node.was c.if-node-eq-CONTAINER.false c.if-node.false refl
