-- `story_image::story_image_load` meets its contract.
use mathlib.Core.Path.{ap, ◌∙◌}
use Rattle.image.specs.Refusals.{numbered}
use Rattle.story_image.proofs.Loads.{no_view, accepted-number, accepted-words, accepted-view, refused-number, refused-words, refused-view}
use Rattle.story_image.proofs.story_image_load.Goals as goal

pub returns-then-view-lt-VIEW_WORDS : goal.returns-then-view-lt-VIEW_WORDS
returns-then-view-lt-VIEW_WORDS c =
    let kept = no_view _ c.args.work.now c.args.view.now _ _ _ c.if-view-lt-VIEW_WORDS.true (c.number_of.ensures ∙ c.load_without_words.ensures) in
    record {
      answer = kept.0;
      words = kept.1;
      written = kept.2;
    }

pub returns-in-Ok : goal.returns-in-Ok
returns-in-Ok c =
    let whole = c.if-view-lt-VIEW_WORDS.false in
    let loaded = c.load.ensures in
    let view = ap numbered c.in-Ok.is in
    record {
      answer = accepted-number _ _ _ _ whole loaded.answer _ view;
      words = accepted-words _ _ _ _ whole loaded.answer _ _ _ _ view loaded.words;
      written = accepted-view _ _ _ _ whole loaded.answer _ _ _ view c.put_view.ensures;
    }

pub returns-in-Err : goal.returns-in-Err
returns-in-Err c =
    let whole = c.if-view-lt-VIEW_WORDS.false in
    let loaded = c.load.ensures in
    let refusal = ap numbered c.in-Err.is in
    record {
      answer = c.number.ensures ∙ refused-number _ _ _ _ whole loaded.answer _ refusal;
      words = rw c.number.ensures (refused-words _ _ _ _ whole loaded.answer _ _ _ _ refusal loaded.words);
      written = rw c.number.ensures (refused-view _ _ _ _ whole loaded.answer _ _ _ refusal);
    }
