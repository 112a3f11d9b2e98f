-- `story_image::counts::story_image_count_targets` meets its contract.
use mathlib.Core.Path.{◌∙◌}
use Rattle.story_image.proofs.TargetCounts.{count-without, count_under}
use Rattle.story_image.proofs.counts.story_image_count_targets.Goals as goal

pub returns-then-view-lt-VIEW_WORDS : goal.returns-then-view-lt-VIEW_WORDS
returns-then-view-lt-VIEW_WORDS c = let a = c.args in
    record {
      number = (count-without a.bytes.now a.view.now a.summary.now c.if-view-lt-VIEW_WORDS.true).0;
      words = (count-without a.bytes.now a.view.now a.summary.now c.if-view-lt-VIEW_WORDS.true).1;
    }

pub returns : goal.returns
returns c =
    let a = c.args in
    let e = c.count_targets.ensures in
    let counted = count_under a.bytes.now a.view.now a.summary.now c.if-view-lt-VIEW_WORDS.false _ c.view_of.ensures _ _ (c.number_of.ensures ∙ e.number) e.words in
    record {
      number = counted.0;
      words = counted.1;
    }
