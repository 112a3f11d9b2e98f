-- `story_image::node::story_image_text` meets its contract.
use mathlib.Core.Path.{ap}
use Rattle.answers.specs.AnswerWords.{part_answer}
use Rattle.story_image.proofs.Views.{no_view, asked}
use Rattle.story_image.proofs.node.story_image_text.Goals as goal

pub returns-then-view-lt-VIEW_WORDS : goal.returns-then-view-lt-VIEW_WORDS
returns-then-view-lt-VIEW_WORDS c = no_view c.args.view.now _ _ c.if-view-lt-VIEW_WORDS.true

pub returns : goal.returns
returns c =
    let a = c.args in
    asked a.view.now _ _ _ _ c.if-view-lt-VIEW_WORDS.false _ c.view_of-found.ensures _ (ap (part_answer _ _) c.text_answer-text.ensures) c.put_text.ensures
