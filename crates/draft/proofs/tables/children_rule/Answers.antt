-- `draft::tables::children_rule` meets its contract. The invariant: the children before `j` pass.
use mathlib.Core.Path.{refl}
use native.Mathlib.Omega.{arith}
use Rattle.laws.proofs.Chains.{first_done}
use Rattle.laws.proofs.RuleRuns.{run_starts}
use Rattle.draft.proofs.EntryTables.{child-told, test-stops, test_goes}
use Rattle.draft.proofs.tables.children_rule.Goals as goal

pub loop-child-init : goal.loop-child-init
loop-child-init c = λ v e. run_starts _

pub returns-then-not-is_inside : goal.returns-then-not-is_inside
returns-then-not-is_inside c =
    let count = c.node_count-count.ensures in
    let child = child-told _ _ _ _ count _ _ _ refl c.is_inside.ensures in
    test-stops _ _ _ _ (c.loop-child.invariant _ count) child _ c.loop-child-test.true (λ z. omega arith) c.if-not-is_inside.true-raw

pub loop-child-preserved : goal.loop-child-preserved
loop-child-preserved c = λ v e. test_goes _ _ _ _ (c.loop-child.invariant v e) (child-told v _ _ _ e _ _ _ refl c.is_inside.ensures) c.if-not-is_inside.false-raw

pub returns : goal.returns
returns c = first_done _ _ _ c.loop-child.auto.child-index-end c.loop-child-test.false (c.loop-child.invariant _ c.node_count-count.ensures)
