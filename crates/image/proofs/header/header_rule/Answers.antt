-- `image::header::header_rule` meets its contract.
use mathlib.Core.Path.{◌≡◌, sym, ap, ◌∙◌}
use mathlib.Core.Bool.{true}
use native.Mathlib.Omega.{arith}
use borrow.Author.Tests.{not-true, not-false}
use lib.ListN.{length-take}
use Rattle.laws.specs.Refusal.{unless}
use Rattle.laws.proofs.First.{pass, fail}
use Rattle.words.specs.Words.{word_at}
use Rattle.texts.specs.Text.{ascii}
use Rattle.image.specs.Header.{magic, version_right, headed, ink_right, laid_out, header_rule}
use Rattle.image.proofs.Rows.{row_short, row_magic, row_version, row_ink, row_length, row_layout, headed_by}
use Rattle.image.proofs.header.header_rule.Goals as goal

pub returns-then-bytes-lt-HEADER_LENGTH : goal.returns-then-bytes-lt-HEADER_LENGTH
returns-then-bytes-lt-HEADER_LENGTH c = sym (row_short c.args.bytes.now c.if-bytes-lt-HEADER_LENGTH.true)

pub slice_bounds-equal-end : goal.slice_bounds-equal-end
slice_bounds-equal-end c = simp length-take (omega arith)

pub returns-then-not-equal : goal.returns-then-not-equal
unfolding magic ascii
returns-then-not-equal c = sym (row_magic c.args.bytes.now (sym c.equal.ensures ∙ not-true _ c.if-not-equal.true-raw))

pub returns-then-not-version_right : goal.returns-then-not-version_right
unfolding ascii magic
returns-then-not-version_right c =
    let head : headed c.args.bytes.now ≡ true = headed_by c.args.bytes.now c.if-bytes-lt-HEADER_LENGTH.false (sym c.equal.ensures ∙ not-false _ c.if-not-equal.false-raw) in
    sym (row_version _ (head) (sym (c.version_right.ensures ∙ ap version_right c.word.ensures) ∙ not-true _ c.if-not-version_right.true-raw))

pub returns-then-not-ink_right : goal.returns-then-not-ink_right
unfolding ascii magic
returns-then-not-ink_right c =
    let head : headed c.args.bytes.now ≡ true = headed_by c.args.bytes.now c.if-bytes-lt-HEADER_LENGTH.false (sym c.equal.ensures ∙ not-false _ c.if-not-equal.false-raw) in
    let versioned : version_right (word_at c.args.bytes.now 8) ≡ true = sym (c.version_right.ensures ∙ ap version_right c.word.ensures) ∙ not-false _ c.if-not-version_right.false-raw in
    sym (row_ink _ (head) (versioned) (sym (c.ink_right.ensures ∙ ap ink_right c.word-2.ensures) ∙ not-true _ c.if-not-ink_right.true-raw))

pub returns-then-word-bytes : goal.returns-then-word-bytes
unfolding ascii magic
returns-then-word-bytes c =
    let head : headed c.args.bytes.now ≡ true = headed_by c.args.bytes.now c.if-bytes-lt-HEADER_LENGTH.false (sym c.equal.ensures ∙ not-false _ c.if-not-equal.false-raw) in
    let versioned : version_right (word_at c.args.bytes.now 8) ≡ true = sym (c.version_right.ensures ∙ ap version_right c.word.ensures) ∙ not-false _ c.if-not-version_right.false-raw in
    let inked : ink_right (word_at c.args.bytes.now 12) ≡ true = sym (c.ink_right.ensures ∙ ap ink_right c.word-2.ensures) ∙ not-false _ c.if-not-ink_right.false-raw in
    sym (row_length _ (head) (versioned) (inked) (λ e. c.if-word-bytes.true (c.word-3.ensures ∙ e)))

pub returns-then-laid_out : goal.returns-then-laid_out
unfolding ascii magic
returns-then-laid_out c =
    let head : headed c.args.bytes.now ≡ true = headed_by c.args.bytes.now c.if-bytes-lt-HEADER_LENGTH.false (sym c.equal.ensures ∙ not-false _ c.if-not-equal.false-raw) in
    let versioned : version_right (word_at c.args.bytes.now 8) ≡ true = sym (c.version_right.ensures ∙ ap version_right c.word.ensures) ∙ not-false _ c.if-not-version_right.false-raw in
    let inked : ink_right (word_at c.args.bytes.now 12) ≡ true = sym (c.ink_right.ensures ∙ ap ink_right c.word-2.ensures) ∙ not-false _ c.if-not-ink_right.false-raw in
    let layout : header_rule c.args.bytes.now ≡ unless (laid_out c.args.bytes.now) 5 = row_layout _ (head) (versioned) (inked) (sym c.word-3.ensures ∙ c.if-word-bytes.false) in
    sym (layout ∙ pass _ 5 (sym c.laid_out.ensures ∙ c.if-laid_out.true))

pub returns-else-laid_out : goal.returns-else-laid_out
unfolding ascii magic
returns-else-laid_out c =
    let head : headed c.args.bytes.now ≡ true = headed_by c.args.bytes.now c.if-bytes-lt-HEADER_LENGTH.false (sym c.equal.ensures ∙ not-false _ c.if-not-equal.false-raw) in
    let versioned : version_right (word_at c.args.bytes.now 8) ≡ true = sym (c.version_right.ensures ∙ ap version_right c.word.ensures) ∙ not-false _ c.if-not-version_right.false-raw in
    let inked : ink_right (word_at c.args.bytes.now 12) ≡ true = sym (c.ink_right.ensures ∙ ap ink_right c.word-2.ensures) ∙ not-false _ c.if-not-ink_right.false-raw in
    let layout : header_rule c.args.bytes.now ≡ unless (laid_out c.args.bytes.now) 5 = row_layout _ (head) (versioned) (inked) (sym c.word-3.ensures ∙ c.if-word-bytes.false) in
    sym (layout ∙ fail _ 5 (sym c.laid_out.ensures ∙ c.if-laid_out.false))
