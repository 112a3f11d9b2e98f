-- `write_list_sections::payload::put_list` meets its contract.
use Rattle.write_list_sections.proofs.ListLoops.{head-room, items_fit, origins_fit, list_put}
use Rattle.write_list_sections.proofs.payload.put_list.Goals as goal

pub put_words-requires : goal.put_words-requires
put_words-requires c =
    let to = c.args in
    let asked = c.requires in
    let payload-get = c.payload_get-items in
    head-room to.payload.now to.w.now to.text to.start to.at to.out.now _ _ payload-get.ensures c.payload_get-origins.ensures
    asked.start_in_bounds asked.start_in_bounds_2

pub put_list_items-behind-requires : goal.put_list_items-behind-requires
put_list_items-behind-requires c =
    let to = c.args in
    let asked = c.requires in
    let payload-get = c.payload_get-items in
    let payload-get2 = c.payload_get-origins in
    let put-words = c.put_words in
    let fit = items_fit to.payload.now to.w.now to.text to.start to.at to.out.now _ _ payload-get.ensures payload-get2.ensures asked.start_in_bounds asked.start_in_bounds_2 _ put-words.ensures in
    record { count_in_bounds = fit.0; count_in_bounds_2 = fit.1 }

pub put_list_origins-requires : goal.put_list_origins-requires
put_list_origins-requires c =
    let to = c.args in
    let asked = c.requires in
    let payload-get = c.payload_get-items in
    let payload-get2 = c.payload_get-origins in
    let put-words = c.put_words in
    let put-list-items = c.put_list_items-behind in
    origins_fit to.payload.now to.w.now to.text to.start to.at to.out.now _ _ payload-get.ensures payload-get2.ensures asked.start_in_bounds
    asked.start_in_bounds_2 _ put-words.ensures _ _ put-list-items.ensures

pub returns : goal.returns
returns c =
    let to = c.args in
    let asked = c.requires in
    let payload-get = c.payload_get-items in
    let payload-get2 = c.payload_get-origins in
    let put-words = c.put_words in
    let put-list-items = c.put_list_items-behind in
    list_put to.payload.now to.w.now to.text to.start to.at to.out.now _ _ payload-get.ensures payload-get2.ensures asked.start_in_bounds asked.start_in_bounds_2 _
    put-words.ensures _ _ put-list-items.ensures _ c.put_list_origins.ensures
