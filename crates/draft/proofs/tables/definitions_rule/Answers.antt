-- `draft::tables::definitions_rule` meets its contract. The invariant: the definitions before `d` pass, and `used` is how many items they
use mathlib.Core.Path.{refl, sym, ◌∙◌}
use borrow.Author.Rules.{rules}
use Rattle.image.proofs.Refused.{none-refused, refused-alike, some-refused}
use Rattle.laws.proofs.RuleRuns.{run_starts, sum_starts, run_goes}
use Rattle.draft.proofs.EntryTables.{definition-told, used-next, definitions-stop, items-used, items_left}
use Rattle.draft.proofs.tables.definitions_rule.Goals as goal

pub loop-d-init : goal.loop-d-init
loop-d-init c = (search rules, sym (sum_starts _), run_starts _)

pub returns-in_err-definition_rule : goal.returns-in_err-definition_rule
returns-in_err-definition_rule c =
    refused-alike _ _ _ c.in_err-definition_rule.was c.from_residual.ensures.1
    ∙ definitions-stop _ _ c.loop-d.invariant.2 _ c.loop-d-test.true
    (definition-told _ _ _ _ _ c.definition_at-definition.ensures _ _ c.loop-d.invariant.1 c.definition_rule.ensures) (some-refused _ _ c.in_err-definition_rule.was)

pub loop-d-preserved : goal.loop-d-preserved
loop-d-preserved c =
    let told = definition-told _ _ _ _ _ c.definition_at-definition.ensures _ _ c.loop-d.invariant.1 c.definition_rule.ensures in (
      search rules,
      used-next _ _ _ _ _ c.definition_at-definition.ensures (sym told ∙ (none-refused _ _ c.in_ok-definition_rule.was)),
      run_goes _ _ _ c.loop-d.invariant.2 told (none-refused _ _ c.in_ok-definition_rule.was),
    )

pub returns-then-used-all : goal.returns-then-used-all
returns-then-used-all c =
    items-used _ _ c.loop-d.invariant.2 c.loop-d.invariant.0 c.loop-d-test.false _ _ c.loop-d.invariant.1 refl c.if-used-all.true

pub returns-else-used-all : goal.returns-else-used-all
returns-else-used-all c =
    items_left _ _ c.loop-d.invariant.2 c.loop-d.invariant.0 c.loop-d-test.false _ _ c.loop-d.invariant.1 refl c.if-used-all.false
