-- `draft::shape::relations_rule` meets its contract. The invariant: the nodes before `i` pass.
use borrow.Author.Rules.{rules}
use mathlib.Core.Path.{◌∙◌}
use Rattle.image.proofs.Refused.{none-refused, refused-alike, some-refused}
use Rattle.laws.proofs.Chains.{first-broken, first_done}
use Rattle.laws.proofs.RuleRuns.{run_starts, run_goes}
use Rattle.draft.proofs.NodeCount.{below-count, upto-count, past-count}
use Rattle.draft.proofs.shape.relations_rule.Goals as goal

pub loop-i-init : goal.loop-i-init
loop-i-init c = (search rules, run_starts _)

pub relation_rule-requires : goal.relation_rule-requires
relation_rule-requires c =
    let at = c in
    (at.requires, below-count _ _ at.node_count-count.ensures _ c.loop-i-test.true)

pub returns-in_err-relation_rule : goal.returns-in_err-relation_rule
returns-in_err-relation_rule c = refused-alike _ _ _ c.in_err-relation_rule.was c.from_residual.ensures.1 ∙ (let test = c in
    first-broken _ _ _ _ (below-count _ _ test.node_count-count.ensures _ test.loop-i-test.true) c.loop-i.invariant.1 c.relation_rule.ensures (some-refused _ _ c.in_err-relation_rule.was))

pub loop-i-preserved : goal.loop-i-preserved
loop-i-preserved c = (search rules, run_goes _ _ _ c.loop-i.invariant.1 c.relation_rule.ensures (none-refused _ _ c.in_ok-relation_rule.was))

pub returns : goal.returns
returns c =
    let count = c.node_count-count.ensures in
    first_done _ _ _ (upto-count _ _ count _ c.loop-i.invariant.0) (past-count _ _ count _ c.loop-i-test.false) c.loop-i.invariant.1
