-- `write_text_uses::put_container` meets its contract.
use Rattle.write_text_uses.proofs.Puts.{put_none, put_same, room-same}
use Rattle.write_text_uses.proofs.DraftReads.{container_is, no_container_lem}
use Rattle.write_text_uses.proofs.put_container.Goals as goal

pub returns-then-node-ne-CONTAINER : goal.returns-then-node-ne-CONTAINER
returns-then-node-ne-CONTAINER c = put_same _ _ _ _ _ _ (no_container_lem _ _ _ _ _ c.node_at-node.ensures c.if-node-ne-CONTAINER.true) (put_none _ _)

pub put_entries-requires : goal.put_entries-requires
put_entries-requires c =
    let asked = c.requires in
    let node_at = c.node_at-node in
    room-same _ _ _ _ (container_is _ _ _ _ _ node_at.ensures c.if-node-ne-CONTAINER.false) asked.room

pub returns : goal.returns
returns c =
    let node_at = c.node_at-node in
    let if1 = c.if-node-ne-CONTAINER in
    put_same _ _ _ _ _ _ (container_is _ _ _ _ _ node_at.ensures if1.false) c.put_entries.ensures
