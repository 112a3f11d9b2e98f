-- `records::list::payload_rule` meets its contract.
use borrow.Author.Rules.{rules}
use mathlib.Core.Path.{◌∙◌}
use Rattle.image.proofs.Refused.{none-refused, refused-alike, some-refused}
use Rattle.records.proofs.Lists.{payload-past, payload-short, payload-other, payload-items, payload-origins, items-word}
use Rattle.records.proofs.list.payload_rule.Goals as goal

pub returns-then-payload-at : goal.returns-then-payload-at
returns-then-payload-at c = payload-past _ _ _ _ c.if-payload-at.true

pub returns-then-size-lt-HEAD_BYTES : goal.returns-then-size-lt-HEAD_BYTES
returns-then-size-lt-HEAD_BYTES c = payload-short _ _ _ _ c.if-size-lt-HEAD_BYTES.true

pub returns-then-size-items : goal.returns-then-size-items
returns-then-size-items c = payload-other _ _ _ _ _ _ c.word-items.ensures c.word-origins.ensures c.if-size-items.true

pub returns-in_err-items_rule : goal.returns-in_err-items_rule
returns-in_err-items_rule c = refused-alike _ _ _ c.in_err-items_rule.was c.from_residual.ensures.1 ∙ (payload-items _ _ _ _ _ _ c.word-items.ensures c.word-origins.ensures c.if-payload-at.false c.if-size-lt-HEAD_BYTES.false c.if-size-items.false _ c.items_rule.ensures (some-refused _ _ c.in_err-items_rule.was))

pub origins_rule-requires : goal.origins_rule-requires
origins_rule-requires c = (search rules, items-word _ _ _ _ c.word-items.ensures)

pub returns : goal.returns
returns c = payload-origins _ _ _ _ _ _ c.word-items.ensures c.word-origins.ensures c.if-payload-at.false c.if-size-lt-HEAD_BYTES.false c.if-size-items.false _ _ c.items_rule.ensures (none-refused _ _ c.in_ok-items_rule.was) c.origins_rule.ensures
