-- `story_image::page::story_image_page` meets its contract.
use mathlib.Core.Path.{◌∙◌}
use Rattle.story_image.proofs.Pages.{page-without, page-under}
use Rattle.story_image.proofs.page.story_image_page.Goals as goal

pub returns-then-view-lt-VIEW_WORDS : goal.returns-then-view-lt-VIEW_WORDS
returns-then-view-lt-VIEW_WORDS c = let a = c.args in
    record {
      answer = (page-without a.bytes.now a.view.now a.numbers.now a.slots.now c.if-view-lt-VIEW_WORDS.true).0;
      written = (page-without a.bytes.now a.view.now a.numbers.now a.slots.now c.if-view-lt-VIEW_WORDS.true).1;
    }

pub returns : goal.returns
returns c =
    let a = c.args in
    let e = c.page.ensures in
    let paged = page-under a.bytes.now a.view.now a.numbers.now a.slots.now c.if-view-lt-VIEW_WORDS.false _ c.view_of.ensures _ _ (c.number_of.ensures ∙ e.answer) e.written in
    record {
      answer = paged.0;
      written = paged.1;
    }
