-- `load::nodes::nodes_rule` meets its contract. The invariant: of any sections that are read from the parts, the nodes before `i` pass,
use mathlib.Core.Path.{ap, sym, ◌∙◌}
use borrow.Author.Rules.{rules}
use native.Mathlib.Omega.{arith}
use Rattle.image.specs.Header.{sections_by}
use Rattle.image.specs.Refusals.{refusal_in}
use Rattle.image.proofs.Refused.{refused-numbered, some-refused, none-refused}
use Rattle.load.specs.Nodes.{ReadFrom}
use Rattle.records.proofs.PassedRules.{shown-sums}
use Rattle.load.proofs.NodeLoop.{shown-node, passing-start, passing-next, read-from, few, refused-here, all_passed, fields-pass, node-below, node-upto, node-past, node-there, node_is}
use Rattle.load.proofs.nodes.nodes_rule.Goals as goal

pub loop-i-init : goal.loop-i-init
loop-i-init c = (search rules, λ s g. passing-start s)

pub node_record-node-requires : goal.node_record-node-requires
node_record-node-requires c =
    let told : ReadFrom (sections_by c.args.bytes.now c.args.view) c.args.view.version
    c.nodes_part-nodes.result.now c.section_part-payload.result.now c.section_part-strings.result.now
    c.args.counts = read-from _ _ _ _ _ _ c.nodes_part-nodes.ensures c.section_part-payload.ensures c.section_part-strings.ensures
    c.requires in
    node-there _ _ _ _ _ _ told _ c.loop-i-test.true

pub returns-in_err-node_rule : goal.returns-in_err-node_rule
returns-in_err-node_rule c =
    let told : ReadFrom (sections_by c.args.bytes.now c.args.view) c.args.view.version
    c.nodes_part-nodes.result.now c.section_part-payload.result.now c.section_part-strings.result.now
    c.args.counts = read-from _ _ _ _ _ _ c.nodes_part-nodes.ensures c.section_part-payload.ensures c.section_part-strings.ensures
    c.requires in
    let p = c.loop-i.invariant.1 _ told in
    let was = c.in_err-node_rule.was in
    refused-numbered _ _ _ was c.from_residual.ensures.1
    ∙ refused-here _ _ _ p _ (node-below _ _ _ _ _ _ told _ c.loop-i-test.true)
    (sym (ap refusal_in was) ∙ c.node_rule.ensures ∙ shown-node _ _ _ _ _ _ _ _ told (node_is _ _ _ _ _ _ told _ _ c.node_record-node.ensures) _ p.summed)
    (λ z. some-refused _ _ was (ap refusal_in was ∙ z))

pub add-sums-requires : goal.add-sums-requires
add-sums-requires c =
    let told : ReadFrom (sections_by c.args.bytes.now c.args.view) c.args.view.version
    c.nodes_part-nodes.result.now c.section_part-payload.result.now c.section_part-strings.result.now
    c.args.counts = read-from _ _ _ _ _ _ c.nodes_part-nodes.ensures c.section_part-payload.ensures c.section_part-strings.ensures
    c.requires in
    let h = few _ _ _ (c.loop-i.invariant.1 _ told) in
    omega arith

pub loop-i-preserved : goal.loop-i-preserved
loop-i-preserved c = (
  search rules,
  λ s g.
      let p = c.loop-i.invariant.1 s g in
      let node = node_is s _ _ _ _ _ g _ _ c.node_record-node.ensures in
      let passes = sym (c.node_rule.ensures ∙ shown-node s _ _ _ _ _ _ _ g node _ p.summed) ∙ (none-refused _ _ c.in_ok-node_rule.was) in
      passing-next s _ _ p _ passes (c.add-sums.ensures ∙ shown-sums s _ _ _ p.summed node (fields-pass s _ passes)),
)

pub returns : goal.returns
returns c =
    let told : ReadFrom (sections_by c.args.bytes.now c.args.view) c.args.view.version
    c.nodes_part-nodes.result.now c.section_part-payload.result.now c.section_part-strings.result.now
    c.args.counts = read-from _ _ _ _ _ _ c.nodes_part-nodes.ensures c.section_part-payload.ensures c.section_part-strings.ensures
    c.requires in
    let g = told in
    all_passed _ _ _ (c.loop-i.invariant.1 _ g) (node-upto _ _ _ _ _ _ g _ c.loop-i.invariant.0) (node-past _ _ _ _ _ _ g _ c.loop-i-test.false)
