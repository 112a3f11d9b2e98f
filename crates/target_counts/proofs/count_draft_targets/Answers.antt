-- `target_counts::count_draft_targets` meets its contract.
use mathlib.Core.Path.{sym, ◌∙◌}
use borrow.Author.Tests.{not-false}
use Rattle.image.proofs.Refused.{none-refused, refused-alike, some-refused}
use Rattle.image.specs.Header.{version}
use Rattle.draft.specs.Source.{draft_of}
use Rattle.target_counts.proofs.Answers.{draft-broken, draft-short, draft-many, draft-counted}
use Rattle.target_counts.proofs.count_draft_targets.Goals as goal

pub returns-in_err-plain_tables_rule : goal.returns-in_err-plain_tables_rule
returns-in_err-plain_tables_rule c = let a = c.args in
    let s = draft_of version a.draft.nodes.now a.draft.children.now a.draft.named.now a.draft.definitions.now a.draft.items.now a.draft.payload.now a.draft.strings.now in
    record {
      number = refused-alike _ _ _ c.in_err-plain_tables_rule.was c.from_residual.ensures.1 ∙ (draft-broken s a.summary.now _ c.plain_tables_rule.ensures (some-refused _ _ c.in_err-plain_tables_rule.was)).0;
      words = (draft-broken s a.summary.now _ c.plain_tables_rule.ensures (some-refused _ _ c.in_err-plain_tables_rule.was)).1;
    }

pub returns-then-summary-count : goal.returns-then-summary-count
returns-then-summary-count c = let a = c.args in
    let s = draft_of version a.draft.nodes.now a.draft.children.now a.draft.named.now a.draft.definitions.now a.draft.items.now a.draft.payload.now a.draft.strings.now in
    record {
      number = (draft-short s a.summary.now _ c.plain_tables_rule.ensures (none-refused _ _ c.in_ok-plain_tables_rule.was) _ c.node_count-count.ensures c.if-summary-count.true).0;
      words = (draft-short s a.summary.now _ c.plain_tables_rule.ensures (none-refused _ _ c.in_ok-plain_tables_rule.was) _ c.node_count-count.ensures c.if-summary-count.true).1;
    }

pub returns-then-not-words_hold : goal.returns-then-not-words_hold
returns-then-not-words_hold c = let a = c.args in
    let s = draft_of version a.draft.nodes.now a.draft.children.now a.draft.named.now a.draft.definitions.now a.draft.items.now a.draft.payload.now a.draft.strings.now in
    record {
      number = (draft-many s a.summary.now _ c.plain_tables_rule.ensures (none-refused _ _ c.in_ok-plain_tables_rule.was) _ c.node_count-count.ensures c.if-summary-count.false _ c.words_hold.ensures c.if-not-words_hold.true-raw).0;
      words = (draft-many s a.summary.now _ c.plain_tables_rule.ensures (none-refused _ _ c.in_ok-plain_tables_rule.was) _ c.node_count-count.ensures c.if-summary-count.false _ c.words_hold.ensures c.if-not-words_hold.true-raw).1;
    }

pub draft_nodes-requires : goal.draft_nodes-requires
draft_nodes-requires c = (c.node_count-count.ensures, c.if-summary-count.false, sym c.words_hold.ensures ∙ not-false _ c.if-not-words_hold.false-raw)

pub returns : goal.returns
returns c = let a = c.args in
    let s = draft_of version a.draft.nodes.now a.draft.children.now a.draft.named.now a.draft.definitions.now a.draft.items.now a.draft.payload.now a.draft.strings.now in
    record {
      number = (draft-counted s a.summary.now _ c.plain_tables_rule.ensures (none-refused _ _ c.in_ok-plain_tables_rule.was) _ c.node_count-count.ensures c.if-summary-count.false _ c.words_hold.ensures c.if-not-words_hold.false-raw _ c.draft_nodes.ensures).0;
      words = (draft-counted s a.summary.now _ c.plain_tables_rule.ensures (none-refused _ _ c.in_ok-plain_tables_rule.was) _ c.node_count-count.ensures c.if-summary-count.false _ c.words_hold.ensures c.if-not-words_hold.false-raw _ c.draft_nodes.ensures).1;
    }
