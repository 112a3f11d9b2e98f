-- `story_image::lists::story_image_list_payload` meets its contract.
use mathlib.Core.Path.{refl}
use Rattle.story_image.proofs.Views.{no_view, asked}
use Rattle.story_image.proofs.ListValues.{no_list, a_list}
use Rattle.answers.proofs.AnswerSlices.{unanswered}
use Rattle.story_image.proofs.lists.story_image_list_payload.Goals as goal

pub returns-then-view-lt-VIEW_WORDS : goal.returns-then-view-lt-VIEW_WORDS
returns-then-view-lt-VIEW_WORDS c = no_view c.args.view.now _ _ c.if-view-lt-VIEW_WORDS.true

pub returns-in-None : goal.returns-in-None
returns-in-None c =
    asked c.args.view.now _ _ _ _ c.if-view-lt-VIEW_WORDS.false _ c.view_of-found.ensures _ (no_list _ _ c.list_place.ensures _ c.in-None.is) (unanswered _ _ refl)

pub returns-in-Some : goal.returns-in-Some
returns-in-Some c =
    let list = a_list _ _ c.list_place.ensures _ _ c.in-Some.is in
    asked c.args.view.now _ _ _ _ c.if-view-lt-VIEW_WORDS.false _ c.view_of-found.ensures _ list c.put_part.ensures
