-- `story_image::lists::story_image_node_list_entry` meets its contract.
use mathlib.Core.Path.{refl, sym, ap, ◌∙◌}
use Rattle.story_image.proofs.Views.{no_view, asked}
use Rattle.story_image.proofs.ListValues.{no_list, a_list}
use Rattle.answers.proofs.AnswerSlices.{unanswered}
use Rattle.answers.specs.AnswerWords.{entry_answer}
use Rattle.image.proofs.Views.{strings_by}
use Rattle.views.specs.Lists.{list_entry}
use Rattle.story_image.proofs.lists.story_image_node_list_entry.Goals as goal

pub returns-then-view-lt-VIEW_WORDS : goal.returns-then-view-lt-VIEW_WORDS
returns-then-view-lt-VIEW_WORDS c = no_view c.args.view.now _ _ c.if-view-lt-VIEW_WORDS.true

pub returns-in-None : goal.returns-in-None
returns-in-None c =
    asked c.args.view.now _ _ _ _ c.if-view-lt-VIEW_WORDS.false _ c.view_of-found.ensures _ (no_list _ _ c.list_place.ensures _ c.in-None.is) (unanswered _ _ refl)

pub returns-in-Some : goal.returns-in-Some
returns-in-Some c =
    let a = c.args in
    let list = a_list _ _ c.list_place.ensures _ _ c.in-Some.is in
    let payload = c.list_payload-payload.ensures in
    let strings = c.section_part-strings.ensures ∙ sym (strings_by _ _) in
    let entry = c.list_entry.ensures ∙ λ k. list_entry (payload k) (strings k) a.index in
    asked a.view.now _ _ _ _ c.if-view-lt-VIEW_WORDS.false _ c.view_of-found.ensures _ (ap entry_answer entry ∙ list) c.put_entry.ensures
