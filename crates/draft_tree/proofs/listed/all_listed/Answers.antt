-- `draft_tree::listed::all_listed` meets its contract.
use Rattle.draft_tree.proofs.Marks.{children-inside, named-inside, all_told}
use Rattle.draft_tree.proofs.listed.all_listed.Goals as goal

pub mark_children-requires : goal.mark_children-requires
mark_children-requires c =
    let to = c in
    let count = c.node_count-count.ensures in
    let cleared = c.clear.ensures in
    children-inside to.args.nodes.now to.args.children.now to.args.named.now to.args.work.now to.requires _ count _ cleared

pub mark_named-requires : goal.mark_named-requires
mark_named-requires c =
    let to = c in
    let count = c.node_count-count.ensures in
    let cleared = c.clear.ensures in
    named-inside to.args.nodes.now to.args.children.now to.args.named.now to.args.work.now to.requires _ count _ cleared _ c.mark_children.ensures

pub returns : goal.returns
returns c =
    let to = c in
    let count = c.node_count-count.ensures in
    let cleared = c.clear.ensures in
    all_told to.args.nodes.now to.args.children.now to.args.named.now to.args.work.now to.requires _ count _ cleared _ c.mark_children.ensures _ c.mark_named.ensures _ c.all_ones.ensures
