-- `write_text_uses::put_node` meets its contract.
use Rattle.write_text_uses.proofs.Puts.{put_none, put_same, room-same}
use Rattle.write_text_uses.proofs.Nodes.{at_container, at_choice, at_text, at_more-text, at_divert, at_list_lem, at_reference, at_rest, list_inside}
use Rattle.write_text_uses.proofs.put_node.Goals as goal

pub put_optional-requires : goal.put_optional-requires
put_optional-requires c = room-same _ _ _ _ (at_container _ _ _ _ _ c.node_at-node.ensures c.in-1.is) c.requires.room

pub put_optional-requires-in-2 : goal.put_optional-requires-in-2
put_optional-requires-in-2 c = room-same _ _ _ _ (at_choice _ _ _ _ _ c.node_at-node.ensures c.in-2.is) c.requires.room

pub put_use-requires : goal.put_use-requires
put_use-requires c = room-same _ _ _ _ (at_text _ _ _ _ _ c.node_at-node.ensures c.in-3.is) c.requires.room

pub put_use-requires-in-7 : goal.put_use-requires-in-7
put_use-requires-in-7 c = room-same _ _ _ _ (at_more-text _ _ _ _ _ c.node_at-node.ensures c.in-7.is) c.requires.room

pub put_divert-requires : goal.put_divert-requires
put_divert-requires c = room-same _ _ _ _ (at_divert _ _ _ _ _ c.node_at-node.ensures c.in-4.is) c.requires.room

pub put_list-requires : goal.put_list-requires
put_list-requires c =
    let asked = c.requires in
    let node_at = c.node_at-node in
    let match = c.in-12 in
    record {
      list_inside = list_inside _ _ _ _ _ node_at.ensures asked.list_inside match.is;
      room = room-same _ _ _ _ (at_list_lem _ _ _ _ _ node_at.ensures match.is)
          asked.room;
    }

pub put_reference-requires : goal.put_reference-requires
put_reference-requires c = room-same _ _ _ _ (at_reference _ _ _ _ _ c.node_at-node.ensures c.in-17.is) c.requires.room

pub returns-in-1 : goal.returns-in-1
returns-in-1 c =
    let node_at = c.node_at-node in
    let match = c.in-1 in
    put_same _ _ _ _ _ _ (at_container _ _ _ _ _ node_at.ensures match.is) c.put_optional.ensures

pub returns-in-2 : goal.returns-in-2
returns-in-2 c =
    let node_at = c.node_at-node in
    let match = c.in-2 in
    put_same _ _ _ _ _ _ (at_choice _ _ _ _ _ node_at.ensures match.is) c.put_optional-in-2.ensures

pub returns-in-3 : goal.returns-in-3
returns-in-3 c =
    let node_at = c.node_at-node in
    let match = c.in-3 in
    put_same _ _ _ _ _ _ (at_text _ _ _ _ _ node_at.ensures match.is) c.put_use.ensures

pub returns-in-7 : goal.returns-in-7
returns-in-7 c =
    let node_at = c.node_at-node in
    let match = c.in-7 in
    put_same _ _ _ _ _ _ (at_more-text _ _ _ _ _ node_at.ensures match.is) c.put_use-in-7.ensures

pub returns-in-4 : goal.returns-in-4
returns-in-4 c =
    let node_at = c.node_at-node in
    let match = c.in-4 in
    put_same _ _ _ _ _ _ (at_divert _ _ _ _ _ node_at.ensures match.is) c.put_divert.ensures

pub returns-in-12 : goal.returns-in-12
returns-in-12 c =
    let node_at = c.node_at-node in
    let match = c.in-12 in
    put_same _ _ _ _ _ _ (at_list_lem _ _ _ _ _ node_at.ensures match.is) c.put_list.ensures

pub returns-in-17 : goal.returns-in-17
returns-in-17 c =
    let node_at = c.node_at-node in
    let match = c.in-17 in
    put_same _ _ _ _ _ _ (at_reference _ _ _ _ _ node_at.ensures match.is) c.put_reference.ensures

pub returns-in_default : goal.returns-in_default
returns-in_default c = put_same _ _ _ _ _ _ (at_rest _ _ _ _ _ c.node_at-node.ensures c.in_default.in_default-own.rest) (put_none _ _)
