-- `views::lists::list_entry` meets its contract.
use Rattle.views.proofs.Answers.{list-short, list-past, list-hidden, list-shown}
use borrow.Author.Rules.{rules}
use Rattle.views.proofs.lists.list_entry.Goals as goal

pub returns-then-payload-at : goal.returns-then-payload-at
returns-then-payload-at c = list-short _ _ _ c.if-payload-at.true

pub returns-then-word-j : goal.returns-then-word-j
returns-then-word-j c = list-past _ _ _ c.if-payload-at.false _ c.word.ensures c.if-word-j.true

pub returns-then-not-is_shown : goal.returns-then-not-is_shown
returns-then-not-is_shown c = list-hidden _ _ _ c.if-payload-at.false _ c.word.ensures c.if-word-j.false _ _ c.word-offset.ensures c.word-len.ensures _ c.is_shown.ensures c.if-not-is_shown.true-raw

pub returns : goal.returns
returns c =
    let at = c.args in
    let name = c in
    search (rules, list-shown at.payload.now at.strings.now at.j name.if-payload-at.false _ name.word.ensures name.if-word-j.false _ _ name.word-offset.ensures c.word-len.ensures _ c.is_shown.ensures c.if-not-is_shown.false-raw _ _ _ c.word-2.ensures c.word-3.ensures c.word-4.ensures _ c.optional_text-origin.ensures)
