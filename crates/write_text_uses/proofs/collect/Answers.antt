-- `write_text_uses::collect` meets its contract.
use Rattle.write_text_uses.proofs.AllUses.{nodes-asked, named-asked, definitions-asked, begins, collected}
use Rattle.write_text_uses.proofs.collect.Goals as goal

pub put_nodes-behind_nodes-requires : goal.put_nodes-behind_nodes-requires
put_nodes-behind_nodes-requires c = nodes-asked _ _ _ _ _ _ _ _ _ c.requires

pub put_named-behind_named-requires : goal.put_named-behind_named-requires
put_named-behind_named-requires c =
    let asked = c.requires in
    let put-nodes = c.put_nodes-behind_nodes in
    named-asked _ _ _ _ _ _ _ _ _ asked _ _ put-nodes.ensures

pub put_definitions-end-requires : goal.put_definitions-end-requires
put_definitions-end-requires c =
    let asked = c.requires in
    let put-nodes = c.put_nodes-behind_nodes in
    let put-named = c.put_named-behind_named in
    definitions-asked _ _ _ _ _ _ _ _ _ asked _ _ put-nodes.ensures _ _ put-named.ensures

pub overflow_sub-result : goal.overflow_sub-result
overflow_sub-result c =
    let asked = c.requires in
    let put-nodes = c.put_nodes-behind_nodes in
    let put-named = c.put_named-behind_named in
    begins _ _ _ _ _ _ _ _ _ asked _ _ put-nodes.ensures _ _ put-named.ensures _ _ c.put_definitions-end.ensures

pub returns : goal.returns
returns c =
    let asked = c.requires in
    let put-nodes = c.put_nodes-behind_nodes in
    let put-named = c.put_named-behind_named in
    collected _ _ _ _ _ _ _ _ _ asked _ _ put-nodes.ensures _ _ put-named.ensures _ _ c.put_definitions-end.ensures
