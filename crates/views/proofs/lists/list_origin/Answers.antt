-- `views::lists::list_origin` meets its contract.
use Rattle.views.proofs.Answers.{origin-none, origin-short, origin-past, origin-shown, origin-hidden}
use Rattle.views.proofs.lists.list_origin.Goals as goal

pub returns-then-payload-lt-HEAD_BYTES : goal.returns-then-payload-lt-HEAD_BYTES
returns-then-payload-lt-HEAD_BYTES c = origin-none _ _ _ c.if-payload-lt-HEAD_BYTES.true

pub returns-then-payload-at : goal.returns-then-payload-at
returns-then-payload-at c = origin-short _ _ _ _ c.word-items.ensures c.if-payload-at.true

pub returns-then-word-j : goal.returns-then-word-j
returns-then-word-j c = origin-past _ _ _ _ c.word-items.ensures c.if-payload-at.false _ c.word.ensures c.if-word-j.true

pub returns-then-is_shown : goal.returns-then-is_shown
returns-then-is_shown c = origin-shown _ _ _ _ c.word-items.ensures c.if-payload-at.false _ c.word.ensures c.if-word-j.false _ _ c.word-offset.ensures c.word-len.ensures _ c.is_shown.ensures c.if-is_shown.true

pub returns-else-is_shown : goal.returns-else-is_shown
returns-else-is_shown c = origin-hidden _ _ _ _ c.word-items.ensures c.if-payload-at.false _ c.word.ensures c.if-word-j.false _ _ c.word-offset.ensures c.word-len.ensures _ c.is_shown.ensures c.if-is_shown.false
