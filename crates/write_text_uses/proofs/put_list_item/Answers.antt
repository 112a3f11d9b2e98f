-- `write_text_uses::put_list_item` meets its contract.
use Rattle.write_text_uses.proofs.Puts.{first-room, second-room, two_put}
use Rattle.write_text_uses.proofs.DraftReads.{item_is}
use Rattle.write_text_uses.proofs.put_list_item.Goals as goal

pub put_optional-behind-requires : goal.put_optional-behind-requires
put_optional-behind-requires c =
    let asked = c.requires in
    let payload-word = c.payload_word-origin in
    let payload-word2 = c.payload_word-origin_len in
    first-room _ _ _ _ _ (item_is _ _ _ _ _ _ _ payload-word.ensures payload-word2.ensures c.payload_word-name.ensures c.payload_word-name_len.ensures)
    asked.room

pub put_use-requires : goal.put_use-requires
put_use-requires c =
    let asked = c.requires in
    let payload-word = c.payload_word-origin in
    let payload-word2 = c.payload_word-origin_len in
    let payload-word3 = c.payload_word-name in
    let payload-word4 = c.payload_word-name_len in
    let put-optional = c.put_optional-behind in
    second-room _ _ _ _ _ (item_is _ _ _ _ _ _ _ payload-word.ensures payload-word2.ensures payload-word3.ensures payload-word4.ensures) asked.room _ _
    put-optional.ensures

pub returns : goal.returns
returns c =
    let asked = c.requires in
    let payload-word = c.payload_word-origin in
    let payload-word2 = c.payload_word-origin_len in
    let payload-word3 = c.payload_word-name in
    let payload-word4 = c.payload_word-name_len in
    let put-optional = c.put_optional-behind in
    two_put _ _ _ _ _ (item_is _ _ _ _ _ _ _ payload-word.ensures payload-word2.ensures payload-word3.ensures payload-word4.ensures) asked.room _ _
    put-optional.ensures _ _ c.put_use.ensures
