-- `write_text_uses::put_list` meets its contract.
use Rattle.write_text_uses.proofs.Puts.{first-room, second-room, two_put}
use Rattle.write_text_uses.proofs.DraftReads.{list_is, list-items-inside, list-origins-inside}
use Rattle.write_text_uses.proofs.put_list.Goals as goal

pub put_list_items-behind-requires : goal.put_list_items-behind-requires
put_list_items-behind-requires c =
    let asked = c.requires in
    let payload-word = c.payload_word-items in
    let payload-word2 = c.payload_word-origins in
    record {
      list_item_size_in_bounds = list-items-inside _ _ _ _ payload-word.ensures payload-word2.ensures asked.list_inside;
      room = first-room _ _ _ _ _ (list_is _ _ _ _ payload-word.ensures payload-word2.ensures)
          asked.room;
    }

pub put_list_origins-requires : goal.put_list_origins-requires
put_list_origins-requires c =
    let asked = c.requires in
    let payload-word = c.payload_word-items in
    let payload-word2 = c.payload_word-origins in
    let put-list-items = c.put_list_items-behind in
    record {
      list_origin_size_in_bounds = list-origins-inside _ _ _ _ payload-word.ensures payload-word2.ensures asked.list_inside;
      room = second-room _ _ _ _ _ (list_is _ _ _ _ payload-word.ensures payload-word2.ensures)
          asked.room _ _ put-list-items.ensures;
    }

pub returns : goal.returns
returns c =
    let asked = c.requires in
    let payload-word = c.payload_word-items in
    let payload-word2 = c.payload_word-origins in
    let put-list-items = c.put_list_items-behind in
    two_put _ _ _ _ _ (list_is _ _ _ _ payload-word.ensures payload-word2.ensures) asked.room _ _ put-list-items.ensures _ _
    c.put_list_origins.ensures
