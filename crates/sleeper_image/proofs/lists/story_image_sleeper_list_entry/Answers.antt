-- `sleeper_image::lists::story_image_sleeper_list_entry` meets its contract.
use mathlib.Core.Path.{ap}
use Rattle.sleeper_image.specs.Queries.{entry_answer}
use Rattle.sleeper_image.proofs.Views.{no_view, asked}
use Rattle.sleeper_image.proofs.lists.story_image_sleeper_list_entry.Goals as goal

pub returns-then-view-lt-VIEW_WORDS : goal.returns-then-view-lt-VIEW_WORDS
returns-then-view-lt-VIEW_WORDS c = no_view c.args.view.now _ _ c.if-view-lt-VIEW_WORDS.true

pub returns : goal.returns
returns c =
    asked c.args.view.now _ _ _ _ c.if-view-lt-VIEW_WORDS.false _ c.view_of.ensures _ (ap entry_answer c.list_entry.ensures) c.put_entry.ensures
