-- `target_changes::set_target` meets its contract.
use mathlib.Core.Path.{◌∙◌}
use Rattle.image.proofs.Refused.{none-refused, refused-alike, some-refused}
use Rattle.image.specs.Header.{version}
use Rattle.draft.specs.Source.{draft_of}
use Rattle.target_changes.proofs.Moves.{set-broken, set-short, summarised, set_moved}
use Rattle.target_changes.proofs.set_target.Goals as goal

pub returns-in_err-plain_tables_rule : goal.returns-in_err-plain_tables_rule
returns-in_err-plain_tables_rule c = let to = c.args in
    let s = draft_of version to.nodes.now to.children.now to.named.now to.definitions.now to.items.now to.payload.now to.strings.now in
    let e = set-broken s to.summary.now to.node to.target _ c.plain_tables_rule.ensures (some-refused _ _ c.in_err-plain_tables_rule.was) in
    record {
      number = refused-alike _ _ _ c.in_err-plain_tables_rule.was c.from_residual.ensures.1 ∙ e.number;
      draft = e.nodes_are;
      words = e.words_are;
    }

pub returns-then-summary-node_count : goal.returns-then-summary-node_count
returns-then-summary-node_count c = let to = c.args in
    let s = draft_of version to.nodes.now to.children.now to.named.now to.definitions.now to.items.now to.payload.now to.strings.now in
    let e = set-short s to.summary.now to.node to.target _ c.plain_tables_rule.ensures (none-refused _ _ c.in_ok-plain_tables_rule.was) _ c.node_count.ensures c.if-summary-node_count.true in
    record {
      number = e.number;
      draft = e.nodes_are;
      words = e.words_are;
    }

pub move_target-requires : goal.move_target-requires
move_target-requires c = let to = c.args in
    let s = draft_of version to.nodes.now to.children.now to.named.now to.definitions.now to.items.now to.payload.now to.strings.now in
    summarised s to.summary.now to.node to.target _ c.plain_tables_rule.ensures (none-refused _ _ c.in_ok-plain_tables_rule.was) _ c.node_count.ensures c.if-summary-node_count.false

pub returns : goal.returns
returns c = let to = c.args in
    let s = draft_of version to.nodes.now to.children.now to.named.now to.definitions.now to.items.now to.payload.now to.strings.now in
    let e = set_moved s to.summary.now to.node to.target _ c.plain_tables_rule.ensures (none-refused _ _ c.in_ok-plain_tables_rule.was) _ c.node_count.ensures c.if-summary-node_count.false _ _ _ c.move_target.ensures in
    record {
      number = e.number;
      draft = e.nodes_are;
      words = e.words_are;
    }
