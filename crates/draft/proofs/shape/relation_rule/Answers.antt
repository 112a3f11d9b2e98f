-- `draft::shape::relation_rule` meets its contract.
use mathlib.Core.List.{[]}
use mathlib.Core.Path.{sym, ◌∙◌}
use Rattle.image.proofs.Refused.{err-refused, not-err-passed}
use Rattle.records.proofs.ByKind.{shown-parent}
use Rattle.draft.proofs.NodeTable.{node_is}
use Rattle.draft.proofs.Relations.{parent-told, wrong-parent, right-node, wrong-entries}
use Rattle.draft.proofs.shape.relation_rule.Goals as goal

pub returns-then-is_err : goal.returns-then-is_err
returns-then-is_err c =
    let parent = c in
    let to = parent in
    let node = node_is _ to.args.nodes.now to.args.children.now to.args.named.now [] [] [] to.args.strings.now _ _ parent.node_at-node.ensures in
    let shows = parent-told _ _ _ _ to.requires.0 _ to.requires.1 _ node _ _ parent.node_count-count.ensures parent.tag_at-parent_tag.ensures in
    wrong-parent _ _ _ _ to.requires.0 _ to.requires.1 _ node _ (parent.parent_rule.ensures ∙ shown-parent _ _ _ _ _ shows) (err-refused _ (sym c.is_err.ensures.value ∙ c.if-is_err.true))

pub returns-then-node_entries_right : goal.returns-then-node_entries_right
returns-then-node_entries_right c =
    let parent = c in
    let to = parent in
    let node = node_is _ to.args.nodes.now to.args.children.now to.args.named.now [] [] [] to.args.strings.now _ _ parent.node_at-node.ensures in
    let shows = parent-told _ _ _ _ to.requires.0 _ to.requires.1 _ node _ _ parent.node_count-count.ensures parent.tag_at-parent_tag.ensures in
    right-node _ _ _ _ to.requires.0 _ to.requires.1 _ node _ (parent.parent_rule.ensures ∙ shown-parent _ _ _ _ _ shows) (not-err-passed _ (sym c.is_err.ensures.value ∙ c.if-is_err.false)) _ c.node_entries_right.ensures c.if-node_entries_right.true

pub returns-else-node_entries_right : goal.returns-else-node_entries_right
returns-else-node_entries_right c =
    let parent = c in
    let to = parent in
    let node = node_is _ to.args.nodes.now to.args.children.now to.args.named.now [] [] [] to.args.strings.now _ _ parent.node_at-node.ensures in
    let shows = parent-told _ _ _ _ to.requires.0 _ to.requires.1 _ node _ _ parent.node_count-count.ensures parent.tag_at-parent_tag.ensures in
    wrong-entries _ _ _ _ to.requires.0 _ to.requires.1 _ node _ (parent.parent_rule.ensures ∙ shown-parent _ _ _ _ _ shows) (not-err-passed _ (sym c.is_err.ensures.value ∙ c.if-is_err.false)) _ c.node_entries_right.ensures c.if-node_entries_right.false
