-- `definitions::items_rule` meets its contract. The invariant: no item so far is refused.
use mathlib.Core.List.{[]}
use mathlib.Core.Path.{◌∙◌}
use Rattle.image.proofs.Refused.{none-refused, refused-alike, some-refused}
use Rattle.definitions.specs.Definitions.{item_rule_from}
use Rattle.definitions.specs.Parts.{definition_parts}
use Rattle.laws.proofs.Chains.{first-broken, first_done}
use Rattle.laws.proofs.RuleRuns.{run_starts, run_goes}
use borrow.Author.Rules.{rules}
use Rattle.definitions.proofs.items_rule.Goals as goal

pub loop-place-init : goal.loop-place-init
loop-place-init c = let at = c.args in (search rules, run_starts (item_rule_from (definition_parts [] at.items.now at.strings.now) at.first))

pub returns-in_err-item_rule : goal.returns-in_err-item_rule
returns-in_err-item_rule c = refused-alike _ _ _ c.in_err-item_rule.was c.from_residual.ensures.1 ∙ (let at = c.args in
    let here = c.loop-place in
    first-broken at.count here.place _ (item_rule_from (definition_parts [] at.items.now at.strings.now) at.first) c.loop-place-test.true here.invariant.1 c.item_rule.ensures (some-refused _ _ c.in_err-item_rule.was))

pub loop-place-preserved : goal.loop-place-preserved
loop-place-preserved c =
    let at = c.args in
    let here = c.loop-place in
    (search rules, run_goes here.place _ (item_rule_from (definition_parts [] at.items.now at.strings.now) at.first) here.invariant.1 c.item_rule.ensures (none-refused _ _ c.in_ok-item_rule.was))

pub returns : goal.returns
returns c =
    let at = c.args in
    first_done at.count c.loop-place.place (item_rule_from (definition_parts [] at.items.now at.strings.now) at.first) c.loop-place.invariant.0 c.loop-place-test.false c.loop-place.invariant.1
