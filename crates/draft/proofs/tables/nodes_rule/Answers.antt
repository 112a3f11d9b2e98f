-- `draft::tables::nodes_rule` meets its contract. The invariant: the nodes before `i` pass, the sums are theirs, and the hint and the window are for `i`.
use mathlib.Core.Path.{sym, ◌∙◌}
use native.Mathlib.Omega.{arith}
use borrow.Author.Rules.{rules}
use Rattle.image.proofs.Refused.{none-refused, refused-alike, some-refused}
use Rattle.records.proofs.ByKind.{shown-used}
use Rattle.draft.specs.Source.{NodesFrom, draft_of}
use Rattle.draft.proofs.PathTables.{follows_is, path-sums}
use Rattle.draft.proofs.NodeTable.{passing-start, passing-next, given, count_is, node-rules, few, fields-pass, node_is, refused-here, all_summed, all_used, left_over}
use Rattle.draft.proofs.Windows.{ready-starts, ready_goes}
use Rattle.draft.proofs.NodeCount.{below-count, upto-count, past-count}
use Rattle.draft.proofs.tables.nodes_rule.Goals as goal

pub loop-i-init : goal.loop-i-init
loop-i-init c = (search rules, passing-start _ _, c.first_hint-hint.ensures, ready-starts _ _ _)

pub window_for-requires : goal.window_for-requires
window_for-requires c = c.loop-i.invariant.3

pub node_at-node-requires : goal.node_at-node-requires
node_at-node-requires c =
    let told : let to = c.args in
    NodesFrom (draft_of to.source.version to.draft.nodes.now to.draft.children.now to.draft.named.now to.draft.definitions.now to.draft.items.now to.draft.payload.now to.draft.strings.now) to.source.version to.draft.nodes.now to.draft.payload.now to.draft.strings.now c.entry_counts-counts.result = given _ _ _ _ _ _ _ _ _ c.entry_counts-counts.ensures in
    below-count _ _ (count_is _ _ _ _ _ told) _ c.loop-i-test.true

pub follows-follow-requires : goal.follows-follow-requires
follows-follow-requires c = (c.loop-i.invariant.2, c.window_for.ensures)

pub node_rule-requires : goal.node_rule-requires
node_rule-requires c = c.requires

pub returns-in_err-node_rule : goal.returns-in_err-node_rule
returns-in_err-node_rule c =
    let told : let to = c.args in
    NodesFrom (draft_of to.source.version to.draft.nodes.now to.draft.children.now to.draft.named.now to.draft.definitions.now to.draft.items.now to.draft.payload.now to.draft.strings.now) to.source.version to.draft.nodes.now to.draft.payload.now to.draft.strings.now c.entry_counts-counts.result = given _ _ _ _ _ _ _ _ _ c.entry_counts-counts.ensures in
    let loop = c in
    let known = told in
    let p = loop.loop-i.invariant.1 in
    let h = below-count _ _ (count_is _ _ _ _ _ known) _ c.loop-i-test.true in
    let node = node_is _ _ _ _ _ _ _ _ _ _ c.node_at-node.ensures in
    refused-alike _ _ _ c.in_err-node_rule.was c.from_residual.ensures.1
    ∙ refused-here _ _ _ _ p _ h (node-rules _ _ _ _ _ known _ _ node _ _ p.summed _ (follows_is _ _ _ _ node _ c.follows-follow.ensures) _ c.node_rule.ensures) (some-refused _ _ c.in_err-node_rule.was)

pub add-sums-requires : goal.add-sums-requires
add-sums-requires c = let h = few _ _ _ _ c.loop-i.invariant.1 in omega arith

pub next_hint-next-requires : goal.next_hint-next-requires
next_hint-next-requires c = c.loop-i.invariant.2

pub loop-i-preserved : goal.loop-i-preserved
loop-i-preserved c =
    let told : let to = c.args in
    NodesFrom (draft_of to.source.version to.draft.nodes.now to.draft.children.now to.draft.named.now to.draft.definitions.now to.draft.items.now to.draft.payload.now to.draft.strings.now) to.source.version to.draft.nodes.now to.draft.payload.now to.draft.strings.now c.entry_counts-counts.result = given _ _ _ _ _ _ _ _ _ c.entry_counts-counts.ensures in
    let loop = c in
    let known = told in
    let p = loop.loop-i.invariant.1 in
    let node = node_is _ _ _ _ _ _ _ _ _ _ c.node_at-node.ensures in
    let follow = follows_is _ _ _ _ node _ c.follows-follow.ensures in
    let passes = sym (node-rules _ _ _ _ _ known _ _ node _ _ p.summed _ follow _ c.node_rule.ensures) ∙ (none-refused _ _ c.in_ok-node_rule.was) in
    (omega (arith, c.loop-i-test.true), passing-next _ _ _ _ p _ passes (c.add-sums.ensures ∙ path-sums _ _ _ _ _ p.summed node (fields-pass _ _ _ passes)), c.next_hint-next.ensures, ready_goes _ _ _ _ c.window_for.ensures)

pub returns-then-used_up : goal.returns-then-used_up
returns-then-used_up c =
    let told : let to = c.args in
    NodesFrom (draft_of to.source.version to.draft.nodes.now to.draft.children.now to.draft.named.now to.draft.definitions.now to.draft.items.now to.draft.payload.now to.draft.strings.now) to.source.version to.draft.nodes.now to.draft.payload.now to.draft.strings.now c.entry_counts-counts.result = given _ _ _ _ _ _ _ _ _ c.entry_counts-counts.ensures in
    let loop = c in
    let known = told in
    let p = loop.loop-i.invariant.1 in
    let h = upto-count _ _ (count_is _ _ _ _ _ known) _ loop.loop-i.invariant.0 in
    let k = past-count _ _ (count_is _ _ _ _ _ known) _ c.loop-i-test.false in
    all_used _ _ _ _ p h k _ (c.used_up.ensures ∙ shown-used _ _ _ _ _ (all_summed _ _ _ _ p h k) known.counts) c.if-used_up.true

pub returns-else-used_up : goal.returns-else-used_up
returns-else-used_up c =
    let told : let to = c.args in
    NodesFrom (draft_of to.source.version to.draft.nodes.now to.draft.children.now to.draft.named.now to.draft.definitions.now to.draft.items.now to.draft.payload.now to.draft.strings.now) to.source.version to.draft.nodes.now to.draft.payload.now to.draft.strings.now c.entry_counts-counts.result = given _ _ _ _ _ _ _ _ _ c.entry_counts-counts.ensures in
    let loop = c in
    let known = told in
    let p = loop.loop-i.invariant.1 in
    let h = upto-count _ _ (count_is _ _ _ _ _ known) _ loop.loop-i.invariant.0 in
    let k = past-count _ _ (count_is _ _ _ _ _ known) _ c.loop-i-test.false in
    left_over _ _ _ _ p h k _ (c.used_up.ensures ∙ shown-used _ _ _ _ _ (all_summed _ _ _ _ p h k) known.counts) c.if-used_up.false
