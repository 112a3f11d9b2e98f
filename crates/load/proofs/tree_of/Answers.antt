-- `load::tree_of` meets its contract: the tree's rule of the parts is that of the view's sections.
use Rattle.load.proofs.Rows.{part_fit, part_room, part-tree, part-rest}
use Rattle.load.proofs.tree_of.Goals as goal

pub tree_rule-requires : goal.tree_rule-requires
tree_rule-requires c =
    let at = c in
    let n = c.nodes_part-nodes.ensures in
    let k = c.section_part-children.ensures in
    let m = c.section_part-named.ensures in
    let t = c.section_part-strings.ensures in
    record {
      fit = part_fit _ _ _ _ _ _ n k m t at.requires.view_value;
      strings_in_bounds = part_room _ _ _ _ _ _ n k m t _ at.requires.view_in_bounds;
    }

pub returns : goal.returns
returns c =
    let n = c.nodes_part-nodes.ensures in
    let k = c.section_part-children.ensures in
    let m = c.section_part-named.ensures in
    let t = c.section_part-strings.ensures in
    let e = c.tree_rule.ensures in
    record {
      answer = part-tree _ _ _ _ _ _ n k m t _ e.answer;
      rest = part-rest _ _ _ _ _ _ n k m t _ _ e.rest;
    }
