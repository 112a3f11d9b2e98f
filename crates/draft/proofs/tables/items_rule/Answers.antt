-- `draft::tables::items_rule` meets its contract. The invariant: the items before `j` pass.
use native.Mathlib.Omega.{arith}
use borrow.Author.Rules.{rules}
use Rattle.laws.proofs.Chains.{first_done}
use Rattle.laws.proofs.RuleRuns.{run_starts}
use Rattle.draft.proofs.EntryTables.{item-told, test-stops, test_goes}
use Rattle.draft.proofs.tables.items_rule.Goals as goal

pub loop-j-init : goal.loop-j-init
loop-j-init c = (search rules, run_starts _)

pub returns-then-not-good_text : goal.returns-then-not-good_text
returns-then-not-good_text c =
    test-stops _ _ _ _ c.loop-j.invariant.1 (item-told _ _ _ _ _ c.entry_at-item.ensures c.good_text.ensures) _ c.loop-j-test.true
    (λ z. omega arith) c.if-not-good_text.true-raw

pub loop-j-preserved : goal.loop-j-preserved
loop-j-preserved c = (
  search rules,
  test_goes _ _ _ _ c.loop-j.invariant.1 (item-told _ _ _ _ _ c.entry_at-item.ensures c.good_text.ensures) c.if-not-good_text.false-raw,
)

pub returns : goal.returns
returns c = first_done _ _ _ c.loop-j.invariant.0 c.loop-j-test.false c.loop-j.invariant.1
