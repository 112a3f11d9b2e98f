-- `draft::shape::orders_rule` meets its contract. The invariant: the definitions before `d` pass.
use borrow.Author.Rules.{rules}
use mathlib.Core.Path.{◌∙◌}
use Rattle.image.proofs.Refused.{none-refused, refused-alike, some-refused}
use Rattle.laws.proofs.Chains.{first-broken, first_done}
use Rattle.laws.proofs.RuleRuns.{run_starts, run_goes}
use Rattle.draft.proofs.shape.orders_rule.Goals as goal

pub loop-d-init : goal.loop-d-init
loop-d-init c = (search rules, run_starts _)

pub order_rule-requires : goal.order_rule-requires
order_rule-requires c = (c.requires, c.loop-d-test.true)

pub returns-in_err-order_rule : goal.returns-in_err-order_rule
returns-in_err-order_rule c = refused-alike _ _ _ c.in_err-order_rule.was c.from_residual.ensures.1 ∙ (first-broken _ _ _ _ c.loop-d-test.true c.loop-d.invariant.1 c.order_rule.ensures (some-refused _ _ c.in_err-order_rule.was))

pub loop-d-preserved : goal.loop-d-preserved
loop-d-preserved c = (search rules, run_goes _ _ _ c.loop-d.invariant.1 c.order_rule.ensures (none-refused _ _ c.in_ok-order_rule.was))

pub returns : goal.returns
returns c = first_done _ _ _ c.loop-d.invariant.0 c.loop-d-test.false c.loop-d.invariant.1
