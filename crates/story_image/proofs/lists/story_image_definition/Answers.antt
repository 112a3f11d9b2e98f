-- `story_image::lists::story_image_definition` meets its contract.
use mathlib.Core.Path.{ap}
use Rattle.answers.specs.AnswerWords.{definition_answer}
use Rattle.story_image.proofs.Views.{no_view, asked}
use Rattle.story_image.proofs.lists.story_image_definition.Goals as goal

pub returns-then-view-lt-VIEW_WORDS : goal.returns-then-view-lt-VIEW_WORDS
returns-then-view-lt-VIEW_WORDS c = no_view c.args.view.now _ _ c.if-view-lt-VIEW_WORDS.true

pub returns : goal.returns
returns c =
    asked c.args.view.now _ _ _ _ c.if-view-lt-VIEW_WORDS.false _ c.view_of.ensures _ (ap definition_answer c.definition.ensures) c.put_definition.ensures
