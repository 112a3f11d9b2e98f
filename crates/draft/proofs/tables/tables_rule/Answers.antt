-- `draft::tables::path_tables_rule` meets its contract.
use mathlib.Core.Path.{sym, ◌∙◌}
use Rattle.image.proofs.Refused.{none-refused, refused-alike, some-refused}
use Rattle.draft.proofs.Row19.{broken-entries, nodes-refused, children-refused, named-refused, definitions-refused, items_decide}
use Rattle.draft.proofs.tables.tables_rule.Goals as goal

pub returns-then-not-whole_entries : goal.returns-then-not-whole_entries
returns-then-not-whole_entries c = broken-entries _ _ _ _ _ _ _ _ _ _ c.whole_entries.ensures c.if-not-whole_entries.true-raw

pub nodes_rule-requires : goal.nodes_rule-requires
nodes_rule-requires c = λ e. sym c.good_bytes-whole.ensures ∙ e

pub returns-in_err-nodes_rule : goal.returns-in_err-nodes_rule
returns-in_err-nodes_rule c = refused-alike _ _ _ c.in_err-nodes_rule.was c.from_residual.ensures.1 ∙ (let whole = c in
    nodes-refused _ _ _ _ _ _ _ _ _ _ whole.whole_entries.ensures c.if-not-whole_entries.false-raw _ c.nodes_rule.ensures (some-refused _ _ c.in_err-nodes_rule.was))

pub returns-in_err-children_rule : goal.returns-in_err-children_rule
returns-in_err-children_rule c = refused-alike _ _ _ c.in_err-children_rule.was c.from_residual-in_err-children_rule.ensures.1 ∙ (let nodes = c in
    let whole = c in
    children-refused _ _ _ _ _ _ _ _ _ _ whole.whole_entries.ensures c.if-not-whole_entries.false-raw _ nodes.nodes_rule.ensures
    (none-refused _ _ c.in_ok-nodes_rule.was) _ c.children_rule.ensures (some-refused _ _ c.in_err-children_rule.was))

pub named_rule-requires : goal.named_rule-requires
named_rule-requires c = λ e. sym c.good_bytes-whole.ensures ∙ e

pub returns-in_err-named_rule : goal.returns-in_err-named_rule
returns-in_err-named_rule c = refused-alike _ _ _ c.in_err-named_rule.was c.from_residual-in_err-named_rule.ensures.1 ∙ (let nodes = c in
    let children = c in
    let whole = c in
    named-refused _ _ _ _ _ _ _ _ _ _ whole.whole_entries.ensures c.if-not-whole_entries.false-raw _ nodes.nodes_rule.ensures
    (none-refused _ _ c.in_ok-nodes_rule.was) _ children.children_rule.ensures
    (none-refused _ _ c.in_ok-children_rule.was) _ c.named_rule.ensures (some-refused _ _ c.in_err-named_rule.was))

pub returns-in_err-definitions_rule : goal.returns-in_err-definitions_rule
returns-in_err-definitions_rule c = refused-alike _ _ _ c.in_err-definitions_rule.was c.from_residual-in_err-definitions_rule.ensures.1 ∙ (let nodes = c in
    let children = c in
    let named = c in
    let whole = c in
    definitions-refused _ _ _ _ _ _ _ _ _ _ whole.whole_entries.ensures c.if-not-whole_entries.false-raw _ nodes.nodes_rule.ensures
    (none-refused _ _ c.in_ok-nodes_rule.was) _ children.children_rule.ensures
    (none-refused _ _ c.in_ok-children_rule.was) _ named.named_rule.ensures
    (none-refused _ _ c.in_ok-named_rule.was) _ c.definitions_rule.ensures (some-refused _ _ c.in_err-definitions_rule.was))

pub returns : goal.returns
returns c =
    let nodes = c in
    let children = c in
    let named = c in
    let definitions = c in
    let whole = c in
    items_decide _ _ _ _ _ _ _ _ _ _ whole.whole_entries.ensures c.if-not-whole_entries.false-raw _ nodes.nodes_rule.ensures
    (none-refused _ _ c.in_ok-nodes_rule.was) _ children.children_rule.ensures
    (none-refused _ _ c.in_ok-children_rule.was) _ named.named_rule.ensures
    (none-refused _ _ c.in_ok-named_rule.was) _ definitions.definitions_rule.ensures
    (none-refused _ _ c.in_ok-definitions_rule.was) _ c.items_rule.ensures
