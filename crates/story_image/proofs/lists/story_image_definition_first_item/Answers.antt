-- `story_image::lists::story_image_definition_first_item` meets its contract.
use mathlib.Core.Path.{refl}
use Rattle.story_image.proofs.Views.{no_view, asked}
use Rattle.story_image.proofs.lists.story_image_definition_first_item.Goals as goal

pub returns-then-view-lt-VIEW_WORDS : goal.returns-then-view-lt-VIEW_WORDS
returns-then-view-lt-VIEW_WORDS c = no_view c.args.view.now _ _ c.if-view-lt-VIEW_WORDS.true

pub returns : goal.returns
returns c =
    asked c.args.view.now _ _ _ _ c.if-view-lt-VIEW_WORDS.false _ c.view_of.ensures _ refl c.put_first_item.ensures
