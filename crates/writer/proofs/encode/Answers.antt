-- `writer::encode` meets its contract.
use mathlib.Core.Path.{ap, sym, ◌∙◌}
use Rattle.image.specs.Refusals.{refusal_in}
use Rattle.image.proofs.Refused.{some-refused, none-refused}
use Rattle.writer.proofs.Errors.{refused-encoded}
use borrow.Author.Tests.{not-true, not-false}
use Rattle.image.specs.Header.{version}
use Rattle.draft.specs.Source.{draft_of}
use Rattle.draft.specs.Draft.{write_words}
use Rattle.writer.proofs.Outcomes.{ended, encode_ink, encode-tables, encode-words, encode-written}
use Rattle.draft_image.proofs.WorkWords.{few_words, no_rule, lent, lent_fits, lent-long, lent-needed, clear-fits, given_back}
use borrow.Author.Rules.{rules}
use Rattle.writer.proofs.encode.Goals as goal

pub returns-then-not-ink_right : goal.returns-then-not-ink_right
returns-then-not-ink_right c =
    let to = c.args in
    let s = draft_of version to.draft.nodes.now to.draft.children.now to.draft.named.now to.draft.definitions.now to.draft.items.now to.draft.payload.now to.draft.strings.now in
    let e = ended _ _ _ _ _ _ _ (encode_ink to.ink s to.out.now to.work.now (sym c.ink_right.ensures ∙ not-true _ c.if-not-ink_right.true-raw)) in
    record {
      answer = e.0;
      output = e.1.0;
      words = e.1.1;
    }

pub returns-in_err-plain_tables_rule : goal.returns-in_err-plain_tables_rule
returns-in_err-plain_tables_rule c =
    let to = c.args in
    let s = draft_of version to.draft.nodes.now to.draft.children.now to.draft.named.now to.draft.definitions.now to.draft.items.now to.draft.payload.now to.draft.strings.now in
    let was = c.in_err-plain_tables_rule.was in
    let e = ended _ _ _ _ _ _ _ (encode-tables to.ink s to.out.now to.work.now (sym c.ink_right.ensures ∙ not-false _ c.if-not-ink_right.false-raw) _
    (sym (ap refusal_in was) ∙ c.plain_tables_rule.ensures) (λ z. some-refused _ _ was (ap refusal_in was ∙ z))) in
    record {
      answer = refused-encoded _ _ c.from_residual.ensures.1 ∙ e.0;
      output = e.1.0;
      words = e.1.1;
    }

pub slice_bounds-write-end : goal.slice_bounds-write-end
slice_bounds-write-end c =
    let to = c.args in
    let work-words-fit = c.work_words_fit in
    let s = draft_of version to.draft.nodes.now to.draft.children.now to.draft.named.now to.draft.definitions.now to.draft.items.now to.draft.payload.now to.draft.strings.now in
    lent_fits (write_words s) _ to.work.now _ (rw c.entry_counts-counts.ensures at work-words-fit.ensures) c.in-Some.is

pub slice_bounds-write-end-in-Some : goal.slice_bounds-write-end-in-Some
slice_bounds-write-end-in-Some c =
    let to = c.args in
    let work-words-fit = c.work_words_fit in
    let s = draft_of version to.draft.nodes.now to.draft.children.now to.draft.named.now to.draft.definitions.now to.draft.items.now to.draft.payload.now to.draft.strings.now in
    lent-long (write_words s) _ to.work.now _ (rw c.entry_counts-counts.ensures at work-words-fit.ensures) c.in-Some.is

pub write-answer-requires : goal.write-answer-requires
write-answer-requires c =
    let to = c.args in
    let ink-right = c.ink_right in
    let if1 = c.if-not-ink_right in
    let tables-rule = c.plain_tables_rule in
    let work-words-fit = c.work_words_fit in
    let s = draft_of version to.draft.nodes.now to.draft.children.now to.draft.named.now to.draft.definitions.now to.draft.items.now to.draft.payload.now to.draft.strings.now in
    record {
      fact = ((sym ink-right.ensures ∙ not-false _ if1.false-raw), (no_rule _ _ tables-rule.ensures (none-refused _ _ c.in_ok-plain_tables_rule.was)));
      work_value = lent-needed (write_words s) _ to.work.now _ (rw c.entry_counts-counts.ensures at work-words-fit.ensures) c.in-Some.is;
    }

pub clear-requires : goal.clear-requires
clear-requires c =
    let to = c.args in
    let work-words-fit = c.work_words_fit in
    let write = c.write-answer in
    let s = draft_of version to.draft.nodes.now to.draft.children.now to.draft.named.now to.draft.definitions.now to.draft.items.now to.draft.payload.now to.draft.strings.now in
    clear-fits (write_words s) _ to.work.now _ (rw c.entry_counts-counts.ensures at work-words-fit.ensures) c.in-Some.is write.new.work
    (search rules)

pub returns-in-None : goal.returns-in-None
returns-in-None c =
    let to = c.args in
    let ink-right = c.ink_right in
    let if1 = c.if-not-ink_right in
    let tables-rule = c.plain_tables_rule in
    let s = draft_of version to.draft.nodes.now to.draft.children.now to.draft.named.now to.draft.definitions.now to.draft.items.now to.draft.payload.now to.draft.strings.now in
    let e = ended _ _ _ _ _ _ _ (encode-words to.ink s to.out.now to.work.now (sym ink-right.ensures ∙ not-false _ if1.false-raw) (no_rule _ _ tables-rule.ensures (none-refused _ _ c.in_ok-plain_tables_rule.was)) (few_words _ _ _ (rw c.entry_counts-counts.ensures at c.work_words_fit.ensures) c.in-None.is)) in
    record {
      answer = e.0;
      output = e.1.0;
      words = e.1.1;
    }

pub returns-in-Some : goal.returns-in-Some
returns-in-Some c =
    let right = sym c.ink_right.ensures ∙ not-false _ c.if-not-ink_right.false-raw in
    let ruled = no_rule _ _ c.plain_tables_rule.ensures (none-refused _ _ c.in_ok-plain_tables_rule.was) in
    let back =
    let to = c.args in
    let work-words-fit = c.work_words_fit in
    let write = c.write-answer in
    let s = draft_of version to.draft.nodes.now to.draft.children.now to.draft.named.now to.draft.definitions.now to.draft.items.now to.draft.payload.now to.draft.strings.now in
    given_back (write_words s) _ to.work.now _ (rw c.entry_counts-counts.ensures at work-words-fit.ensures) c.in-Some.is write.new.work
    (search rules) _ c.clear.ensures in
    let to = c.args in
    let work-words-fit = c.work_words_fit in
    let write = c.write-answer in
    let s = draft_of version to.draft.nodes.now to.draft.children.now to.draft.named.now to.draft.definitions.now to.draft.items.now to.draft.payload.now to.draft.strings.now in
    let e = ended _ _ _ _ _ _ _ (encode-written to.ink s to.out.now to.work.now right ruled (lent (write_words s) _ to.work.now _ (rw c.entry_counts-counts.ensures at work-words-fit.ensures) c.in-Some.is).1 write.new.out _ write.ensures _ back) in
    record {
      answer = e.0;
      output = e.1.0;
      words = e.1.1;
    }
