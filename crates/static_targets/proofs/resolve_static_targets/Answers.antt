-- `static_targets::resolve_static_targets` meets its contract.
use mathlib.Core.Path.{sym, ◌∙◌}
use borrow.Author.Tests.{not-true, not-false}
use Rattle.image.proofs.Refused.{none-refused, refused-alike, some-refused}
use Rattle.image.specs.Header.{version}
use Rattle.draft.specs.Source.{draft_of}
use Rattle.draft.specs.Draft.{write_words}
use Rattle.draft_image.proofs.WorkWords.{few_words, no_rule, lent, lent_fits, lent-long, lent-needed, clear-fits, given_back}
use Rattle.target_finding.specs.Targets.{path_list}
use Rattle.static_targets.proofs.Answers.{ended, list_is, ink_refused, list-refused, tables-refused, words-refused, late-answered}
use borrow.Author.Rules.{rules}
use Rattle.static_targets.proofs.resolve_static_targets.Goals as goal

pub returns-then-not-ink_right : goal.returns-then-not-ink_right
returns-then-not-ink_right c =
    let to = c.args in
    let s = draft_of version to.nodes.now to.children.now to.named.now to.definitions.now to.items.now to.payload.now to.strings.now in
    let p = path_list to.paths.now to.components.now to.names.now in
    let e = ended _ _ _ _ _ _ _ (ink_refused to.ink s p to.work.now (sym c.ink_right.ensures ∙ not-true _ c.if-not-ink_right.true-raw)) in
    record {
      answer = e.0;
      draft = e.1.0;
      words = e.1.1;
    }

pub returns-then-not-list_right : goal.returns-then-not-list_right
returns-then-not-list_right c =
    let to = c.args in
    let s = draft_of version to.nodes.now to.children.now to.named.now to.definitions.now to.items.now to.payload.now to.strings.now in
    let p = path_list to.paths.now to.components.now to.names.now in
    let right = sym c.ink_right.ensures ∙ not-false _ c.if-not-ink_right.false-raw in
    let e = ended _ _ _ _ _ _ _ (list-refused to.ink s p to.work.now right (list_is _ _ _ _ _ _ c.node_count-count.ensures c.list_right.ensures (not-true _ c.if-not-list_right.true-raw))) in
    record {
      answer = e.0;
      draft = e.1.0;
      words = e.1.1;
    }

pub returns-in_err-tables_rule : goal.returns-in_err-tables_rule
returns-in_err-tables_rule c =
    let to = c.args in
    let s = draft_of version to.nodes.now to.children.now to.named.now to.definitions.now to.items.now to.payload.now to.strings.now in
    let p = path_list to.paths.now to.components.now to.names.now in
    let right = sym c.ink_right.ensures ∙ not-false _ c.if-not-ink_right.false-raw in
    let listed = list_is _ _ _ _ _ _ c.node_count-count.ensures c.list_right.ensures (not-false _ c.if-not-list_right.false-raw) in
    let e = ended _ _ _ _ _ _ _ (tables-refused to.ink s p to.work.now right listed _ c.tables_rule.ensures (some-refused _ _ c.in_err-tables_rule.was)) in
    record {
      answer = refused-alike _ _ _ c.in_err-tables_rule.was c.from_residual.ensures.1 ∙ e.0;
      draft = e.1.0;
      words = e.1.1;
    }

pub slice_bounds-resolve-end : goal.slice_bounds-resolve-end
slice_bounds-resolve-end c =
    let past = c in
    let to = past.args in
    let s = draft_of version to.nodes.now to.children.now to.named.now to.definitions.now to.items.now to.payload.now to.strings.now in
    let fit = rw c.entry_counts-counts.ensures at c.work_words_fit.ensures in
    let known = c.in-Some.is in
    lent_fits (write_words s) _ to.work.now _ fit known

pub slice_bounds-resolve-end-in-Some : goal.slice_bounds-resolve-end-in-Some
slice_bounds-resolve-end-in-Some c =
    let past = c in
    let to = past.args in
    let s = draft_of version to.nodes.now to.children.now to.named.now to.definitions.now to.items.now to.payload.now to.strings.now in
    let fit = rw c.entry_counts-counts.ensures at c.work_words_fit.ensures in
    let known = c.in-Some.is in
    lent-long (write_words s) _ to.work.now _ fit known

pub resolve-answer-requires : goal.resolve-answer-requires
resolve-answer-requires c =
    let past = c in
    let to = past.args in
    let s = draft_of version to.nodes.now to.children.now to.named.now to.definitions.now to.items.now to.payload.now to.strings.now in
    let listed = list_is _ _ _ _ _ _ past.node_count-count.ensures past.list_right.ensures (not-false _ past.if-not-list_right.false-raw) in
    let ruled = no_rule _ _ past.tables_rule.ensures (none-refused _ _ past.in_ok-tables_rule.was) in
    let fit = rw c.entry_counts-counts.ensures at c.work_words_fit.ensures in
    let known = c.in-Some.is in
    record {
      fact = (ruled, listed);
      work_value = lent-needed (write_words s) _ to.work.now _ fit known;
    }

pub clear-requires : goal.clear-requires
clear-requires c =
    let past = c in
    let to = past.args in
    let s = draft_of version to.nodes.now to.children.now to.named.now to.definitions.now to.items.now to.payload.now to.strings.now in
    let fit = rw c.entry_counts-counts.ensures at c.work_words_fit.ensures in
    let known = c.in-Some.is in
    let work = c.resolve-answer.new.work in
    clear-fits (write_words s) _ to.work.now _ fit known work (search rules)

pub returns-in-None : goal.returns-in-None
returns-in-None c =
    let past = c in
    let to = past.args in
    let s = draft_of version to.nodes.now to.children.now to.named.now to.definitions.now to.items.now to.payload.now to.strings.now in
    let p = path_list to.paths.now to.components.now to.names.now in
    let right = sym past.ink_right.ensures ∙ not-false _ past.if-not-ink_right.false-raw in
    let listed = list_is _ _ _ _ _ _ past.node_count-count.ensures past.list_right.ensures (not-false _ past.if-not-list_right.false-raw) in
    let ruled = no_rule _ _ past.tables_rule.ensures (none-refused _ _ past.in_ok-tables_rule.was) in
    let fit = rw c.entry_counts-counts.ensures at c.work_words_fit.ensures in
    let e = ended _ _ _ _ _ _ _ (words-refused to.ink s p to.work.now right listed ruled (few_words _ _ _ fit c.in-None.is)) in
    record {
      answer = e.0;
      draft = e.1.0;
      words = e.1.1;
    }

pub returns-in-Some : goal.returns-in-Some
returns-in-Some c =
    let past = c in
    let to = past.args in
    let s = draft_of version to.nodes.now to.children.now to.named.now to.definitions.now to.items.now to.payload.now to.strings.now in
    let p = path_list to.paths.now to.components.now to.names.now in
    let right = sym past.ink_right.ensures ∙ not-false _ past.if-not-ink_right.false-raw in
    let listed = list_is _ _ _ _ _ _ past.node_count-count.ensures past.list_right.ensures (not-false _ past.if-not-list_right.false-raw) in
    let ruled = no_rule _ _ past.tables_rule.ensures (none-refused _ _ past.in_ok-tables_rule.was) in
    let fit = rw c.entry_counts-counts.ensures at c.work_words_fit.ensures in
    let known = c.in-Some.is in
    let work = c.resolve-answer.new.work in
    let e = ended _ _ _ _ _ _ _ (late-answered to.ink s p to.work.now right listed ruled (lent (write_words s) _ to.work.now _ fit known).1 _ _ c.resolve-answer.ensures _ (given_back (write_words s) _ to.work.now _ fit known work (search rules) _ c.clear.ensures)) in
    record {
      answer = e.0;
      draft = e.1.0;
      words = e.1.1;
    }
