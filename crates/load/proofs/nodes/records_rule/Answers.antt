-- `load::nodes::records_rule` meets its contract: the root, the nodes, what is left over.
use Rattle.image.specs.Refusals.{numbered, refusal_in}
use Rattle.image.proofs.Refused.{refused-alike}
use mathlib.Core.Path.{◌≡◌, ap, sym, ◌∙◌}
use borrow.Author.Tests.{not-true, not-false}
use Rattle.words.specs.Words.{words_of}
use Rattle.image.specs.Header.{sections_by}
use Rattle.image.proofs.Entries.{node_record}
use Rattle.image.proofs.Views.{version_by, nodes_by_lem}
use Rattle.records.specs.Records.{root_right}
use Rattle.load.proofs.Rows.{root-wrong, short-root, nodes-refused, nodes-passed, passed-sums}
use native.Mathlib.Omega.{arith}
use Rattle.records.proofs.ByKind.{shown-root}
use Rattle.load.proofs.nodes.records_rule.Goals as goal

pub returns-then-node_count-eq0 : goal.returns-then-node_count-eq0
returns-then-node_count-eq0 c = root-wrong _ (short-root _ _ _ _ c.nodes_part-nodes.ensures c.node_count.ensures c.if-node_count-eq0.true)

pub node_record-requires : goal.node_record-requires
node_record-requires c = let some = c.node_count.ensures in omega arith

pub returns-then-not-root_right : goal.returns-then-not-root_right
returns-then-not-root_right c =
    let rooted : c.root_right.result ≡ root_right (sections_by c.args.bytes.now c.args.view) =
    let at = c in
    let ns = c.nodes_part-nodes.ensures in
    c.root_right.ensures
    ∙ shown-root _ _ (c.node_record.ensures ∙ node_record _ _ _ 0 (version_by at.args.bytes.now at.args.view)
    (nodes_by_lem at.args.bytes.now at.args.view ∙ ap words_of (sym ns))) in
    root-wrong _ (sym rooted ∙ not-true _ c.if-not-root_right.true-raw)

pub returns-in_err-nodes_rule : goal.returns-in_err-nodes_rule
returns-in_err-nodes_rule c =
    let rooted : c.root_right.result ≡ root_right (sections_by c.args.bytes.now c.args.view) =
    let at = c in
    let ns = c.nodes_part-nodes.ensures in
    c.root_right.ensures
    ∙ shown-root _ _ (c.node_record.ensures ∙ node_record _ _ _ 0 (version_by at.args.bytes.now at.args.view)
    (nodes_by_lem at.args.bytes.now at.args.view ∙ ap words_of (sym ns))) in
    refused-alike _ _ _ c.in_err-nodes_rule.was c.from_residual.ensures.1
    ∙ ap refusal_in c.in_err-nodes_rule.was
    ∙ nodes-refused _ _ _
    (sym rooted ∙ not-false _ c.if-not-root_right.false-raw)
    c.nodes_rule.ensures (ap numbered c.in_err-nodes_rule.was)

pub returns : goal.returns
returns c =
    let rooted : c.root_right.result ≡ root_right (sections_by c.args.bytes.now c.args.view) =
    let at = c in
    let ns = c.nodes_part-nodes.ensures in
    c.root_right.ensures
    ∙ shown-root _ _ (c.node_record.ensures ∙ node_record _ _ _ 0 (version_by at.args.bytes.now at.args.view)
    (nodes_by_lem at.args.bytes.now at.args.view ∙ ap words_of (sym ns))) in
    nodes-passed _ _ _ _
    (sym rooted ∙ not-false _ c.if-not-root_right.false-raw)
    c.nodes_rule.ensures (ap numbered c.in_ok-nodes_rule.was)
    (c.left_over.ensures _ c.counts_of-counts.ensures
    (passed-sums _ _ _ c.nodes_rule.ensures (ap numbered c.in_ok-nodes_rule.was)))
