-- `definitions::definitions_rule` meets its contract. The invariant: no definition so far is refused, and `used` is how many items they have.
use Prim.Native.Nat.{◌/◌}
use mathlib.Core.Path.{sym, ◌∙◌}
use native.Mathlib.Omega.{arith}
use lib.ListN.{length}
use borrow.Author.Rules.{rules}
use borrow.Author.Tests.{eq-eqb, ne_eqb}
use Rattle.image.proofs.Refused.{none-refused, refused-alike, some-refused}
use Rattle.laws.specs.Refusal.{unless}
use Rattle.definitions.specs.Definitions.{number_of_items, definition_rule}
use Rattle.image.specs.Sections.{text_entry_size}
use Rattle.definitions.specs.Parts.{definition_parts}
use Rattle.definitions.proofs.Readers.{definitions-stop, definitions_end, used-more, used-inside}
use Rattle.laws.proofs.RuleRuns.{sum_starts, run_starts, run_goes}
use Rattle.definitions.proofs.definitions_rule.Goals as goal

pub loop-d-init : goal.loop-d-init
loop-d-init c =
    let at = c.args in
    let s = definition_parts at.definitions.now at.items.now at.strings.now in
    (search rules, sym (sum_starts (number_of_items s)), run_starts (definition_rule s))

pub definition_rule-requires : goal.definition_rule-requires
definition_rule-requires c = (search rules, c.loop-d.invariant.1)

pub returns-in_err-definition_rule : goal.returns-in_err-definition_rule
returns-in_err-definition_rule c = refused-alike _ _ _ c.in_err-definition_rule.was c.from_residual.ensures.1 ∙ (let at = c.args in
    let here = c.loop-d in
    definitions-stop at.definitions.now at.items.now at.strings.now here.d _ c.loop-d-test.true here.invariant.2 c.definition_rule.ensures (some-refused _ _ c.in_err-definition_rule.was))

pub overflow_add-used : goal.overflow_add-used
overflow_add-used c =
    let at = c.args in
    let here = c.loop-d in
    omega (arith, used-inside at.definitions.now at.items.now at.strings.now here.d here.used c.definition_at-definition.result here.invariant.1 c.definition_at-definition.ensures (sym c.definition_rule.ensures ∙ (none-refused _ _ c.in_ok-definition_rule.was)))

pub loop-d-preserved : goal.loop-d-preserved
loop-d-preserved c =
    let at = c.args in
    let here = c.loop-d in (
      search rules,
      used-more at.definitions.now at.items.now at.strings.now here.d here.used c.definition_at-definition.result here.invariant.1 c.definition_at-definition.ensures,
      run_goes here.d _ (definition_rule (definition_parts at.definitions.now at.items.now at.strings.now)) here.invariant.2 c.definition_rule.ensures (none-refused _ _ c.in_ok-definition_rule.was),
    )

pub returns-then-used-items : goal.returns-then-used-items
unfolding unless
returns-then-used-items c =
    let at = c.args in
    let here = c.loop-d in
    sym (definitions_end at.definitions.now at.items.now at.strings.now here.d here.used here.invariant.0 c.loop-d-test.false here.invariant.1 here.invariant.2
    ∙ rw (eq-eqb here.used (length at.items.now / text_entry_size) c.if-used-items.true))

pub returns-else-used-items : goal.returns-else-used-items
unfolding unless
returns-else-used-items c =
    let at = c.args in
    let here = c.loop-d in
    sym (definitions_end at.definitions.now at.items.now at.strings.now here.d here.used here.invariant.0 c.loop-d-test.false here.invariant.1 here.invariant.2
    ∙ rw (ne_eqb here.used (length at.items.now / text_entry_size) c.if-used-items.false))
