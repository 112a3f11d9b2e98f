-- `target_finding::entry_target` meets its contract.
use borrow.Author.Tests.{not-true, not-false}
use Rattle.target_finding.proofs.Finding.{not-followed, entry-followed}
use Rattle.target_finding.proofs.entry_target.Goals as goal

pub returns-then-not-may_follow : goal.returns-then-not-may_follow
returns-then-not-may_follow c = λ definitions items payload.
    not-followed _ _ _ _ _ c.node_at-node.ensures _ c.may_follow.ensures (not-true _ c.if-not-may_follow.true-raw)

pub returns : goal.returns
returns c = λ definitions items payload.
    entry-followed _ _ _ _ _ c.node_at-node.ensures _ c.may_follow.ensures (not-false _ c.if-not-may_follow.false-raw) _ (c.follow.ensures definitions items payload)
