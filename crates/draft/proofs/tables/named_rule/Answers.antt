-- `draft::tables::named_rule` meets its contract. The invariant: the entries before `j` pass.
use borrow.Author.Rules.{rules}
use mathlib.Core.Path.{◌∙◌}
use Rattle.image.proofs.Refused.{none-refused, refused-alike, some-refused}
use Rattle.laws.proofs.Chains.{first-broken, first_done}
use Rattle.laws.proofs.RuleRuns.{run_starts, run_goes}
use Rattle.draft.proofs.EntryTables.{entry-told}
use Rattle.draft.proofs.tables.named_rule.Goals as goal

pub loop-j-init : goal.loop-j-init
loop-j-init c = (search rules, λ v e. run_starts _)

pub returns-in_err-entry_rule : goal.returns-in_err-entry_rule
returns-in_err-entry_rule c = refused-alike _ _ _ c.in_err-entry_rule.was c.from_residual.ensures.1 ∙ (let loop = c in
    let count = loop.node_count-nodes.ensures in
    let entry = entry-told _ _ _ _ _ count _ _ _ c.entry_at.ensures c.entry_rule.ensures in
    first-broken _ _ _ _ c.loop-j-test.true (loop.loop-j.invariant.1 _ count) entry (some-refused _ _ c.in_err-entry_rule.was))

pub loop-j-preserved : goal.loop-j-preserved
loop-j-preserved c =
    let passed = c.loop-j.invariant.1 in (
      search rules,
      λ v e.
          let entry = entry-told v _ _ _ _ e _ _ _ c.entry_at.ensures c.entry_rule.ensures in
          run_goes _ _ _ (passed v e) entry (none-refused _ _ c.in_ok-entry_rule.was),
    )

pub returns : goal.returns
returns c =
    let passed = c.loop-j.invariant in
    first_done _ _ _ passed.0 c.loop-j-test.false (passed.1 _ c.node_count-nodes.ensures)
