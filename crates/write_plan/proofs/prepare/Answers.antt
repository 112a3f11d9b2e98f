-- `write_plan::prepare` meets its contract.
use mathlib.Core.List.{[]}
use mathlib.Core.Path.{ap, sym, ◌∙◌}
use Rattle.image.specs.Refusals.{refusal_in}
use Rattle.image.proofs.Refused.{refused-numbered, some-refused, none-refused}
use borrow.Author.Tests.{not-true, not-false}
use Rattle.write_plan.proofs.Steps.{number_asks, shape_asks, unreached, misshapen, shaped, texts_ask}
use borrow.Author.Rules.{rules}
use Rattle.write_plan.proofs.prepare.Goals as goal

pub number-requires : goal.number-requires
number-requires c =
    let to = c.args in
    let asked = c.requires in
    number_asks to.source.version to.draft.nodes.now to.draft.children.now to.draft.named.now to.draft.definitions.now to.draft.items.now to.draft.payload.now to.draft.strings.now
    asked.0 to.layout asked.2 to.w.now asked.1 to.counts asked.3

pub returns-then-not-number : goal.returns-then-not-number
returns-then-not-number c =
    let to = c.args in
    let asked = c.requires in
    let number = c.number in
    unreached to.source.version to.draft.nodes.now to.draft.children.now to.draft.named.now to.draft.definitions.now to.draft.items.now to.draft.payload.now to.draft.strings.now
    asked.0 to.layout asked.2 to.w.now asked.1 to.counts asked.3 _ number.ensures.answer [] (not-true _ c.if-not-number.true-raw)

pub shape_rule-requires : goal.shape_rule-requires
shape_rule-requires c =
    let to = c.args in
    let asked = c.requires in
    shape_asks to.source.version to.draft.nodes.now to.draft.children.now to.draft.named.now to.draft.definitions.now to.draft.items.now to.draft.payload.now
    to.draft.strings.now asked.0 to.layout asked.2 to.w.now asked.1 to.counts asked.3

pub returns-in_err-shape_rule : goal.returns-in_err-shape_rule
returns-in_err-shape_rule c =
    let to = c.args in
    let asked = c.requires in
    let number = c.number in
    let was = c.in_err-shape_rule.was in
    rw (refused-numbered _ _ _ was c.from_residual.ensures.1)
    (misshapen to.source.version to.draft.nodes.now to.draft.children.now to.draft.named.now to.draft.definitions.now to.draft.items.now to.draft.payload.now to.draft.strings.now
    asked.0 to.layout asked.2 to.w.now asked.1 to.counts asked.3 _ number.ensures.answer (not-false _ c.if-not-number.false-raw)
    number.new.work (search rules) number.ensures.numbers [] _ (sym (ap refusal_in was) ∙ c.shape_rule.ensures) (λ z. some-refused _ _ was (ap refusal_in was ∙ z)))

pub plan_texts-requires : goal.plan_texts-requires
plan_texts-requires c =
    let to = c.args in
    let asked = c.requires in
    let number = c.number in
    let if1 = c.if-not-number in
    texts_ask to.source.version to.draft.nodes.now to.draft.children.now to.draft.named.now to.draft.definitions.now to.draft.items.now to.draft.payload.now to.draft.strings.now
    asked.0 to.layout asked.2 to.w.now asked.1 to.counts asked.3 _ number.ensures.answer (not-false _ if1.false-raw) number.new.work
    (search rules) number.ensures.numbers _ c.shape_rule.ensures (none-refused _ _ c.in_ok-shape_rule.was)

pub returns : goal.returns
returns c =
    let to = c.args in
    let asked = c.requires in
    let number = c.number in
    let shape-rule = c.shape_rule in
    let if1 = c.if-not-number in
    c.plan_texts.ensures to.draft.children.now
    (shaped to.source.version to.draft.nodes.now to.draft.children.now to.draft.named.now to.draft.definitions.now to.draft.items.now to.draft.payload.now to.draft.strings.now
    asked.0 to.layout asked.2 to.w.now asked.1 to.counts asked.3 _ number.ensures.answer (not-false _ if1.false-raw) number.new.work
    (search rules) number.ensures.numbers _ shape-rule.ensures (none-refused _ _ c.in_ok-shape_rule.was))
