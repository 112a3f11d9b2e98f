-- `sleeper_image::lists::story_image_sleeper_find_list_item` meets its contract.
use mathlib.Core.Path.{ap}
use Rattle.list_items.specs.declared.ItemSearch.{ItemSearch}
use Rattle.answers.specs.AnswerWords.{list_item_answer}
use Rattle.sleeper_image.proofs.Views.{no_view, asked, searched-without, searched-under}
use Rattle.sleeper_image.proofs.lists.story_image_sleeper_find_list_item.Goals as goal

pub returns-then-view-lt-VIEW_WORDS : goal.returns-then-view-lt-VIEW_WORDS
returns-then-view-lt-VIEW_WORDS c =
    let a = c.args in
    record {
      answer = no_view a.view.now _ _ c.if-view-lt-VIEW_WORDS.true;
      searched = searched-without a.bytes.now a.view.now a.name.now a.searched.now c.if-view-lt-VIEW_WORDS.true;
    }

pub returns : goal.returns
returns c =
    let a = c.args in
    let long = c.if-view-lt-VIEW_WORDS.false in
    let v = c.view_of.ensures in
    let search = c.list_item.ensures in
    let put = c.put_search.ensures in
    record {
      answer = asked a.view.now _ _ _ _ long _ v _ (ap (λ (r : ItemSearch). list_item_answer r.answer) search) put.answer;
      searched = searched-under a.bytes.now a.view.now a.name.now a.searched.now long _ v _ search _ put.searched;
    }
