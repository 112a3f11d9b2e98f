-- `sleeper_image::children::story_image_sleeper_child_count` meets its contract.
use mathlib.Core.Path.{ap}
use Rattle.answers.specs.AnswerWords.{found_answer}
use Rattle.sleeper_image.proofs.Views.{no_view, asked}
use Rattle.sleeper_image.proofs.children.story_image_sleeper_child_count.Goals as goal

pub returns-then-view-lt-VIEW_WORDS : goal.returns-then-view-lt-VIEW_WORDS
returns-then-view-lt-VIEW_WORDS c = no_view c.args.view.now _ _ c.if-view-lt-VIEW_WORDS.true

pub returns : goal.returns
returns c =
    asked c.args.view.now _ _ _ _ c.if-view-lt-VIEW_WORDS.false _ c.view_of.ensures _ (ap found_answer c.child_count.ensures) c.put_found.ensures
