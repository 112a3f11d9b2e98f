-- `write_text_uses::put_list_items` meets its contract.
use mathlib.Core.Path.{refl}
use Rattle.write_text_uses.proofs.Puts.{going_start, going-room, going_next, going_end}
use borrow.Author.Rules.{rules}
use Rattle.write_text_uses.proofs.put_list_items.Goals as goal

pub loop-j-init : goal.loop-j-init
loop-j-init c = going_start _ _ _ _ c.requires.room

pub put_list_item-k-requires : goal.put_list_item-k-requires
put_list_item-k-requires c =
    record {
      list_item_size_in_bounds = search rules;
      room = going-room _ _ _ _ _ _ _ c.loop-j.invariant c.loop-j-test.true;
    }

pub loop-j-preserved : goal.loop-j-preserved
loop-j-preserved c =
    let loop = c.loop-j in
    let test = c.loop-j-test in
    going_next _ _ _ _ _ _ _ loop.invariant _ _ _ test.true refl c.put_list_item-k.ensures

pub returns : goal.returns
returns c = going_end _ _ _ _ _ _ _ c.loop-j.invariant c.loop-j-test.false
