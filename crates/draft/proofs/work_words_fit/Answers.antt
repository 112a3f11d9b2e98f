-- `draft::work_words_fit` meets its contract.
use Rattle.draft.proofs.WorkWords.{few_nodes, few_children, few_named, few_definitions, few_items, few_payload, enough, after-nodes, after_next, quarter}
use Rattle.draft.proofs.work_words_fit.Goals as goal

pub returns-then-all-counts : goal.returns-then-all-counts
returns-then-all-counts c = few_nodes c.args.counts _ c.if-all-counts.true

pub returns-then-left-counts : goal.returns-then-left-counts
returns-then-left-counts c =
    let after1 = after-nodes _ _ c.if-all-counts.false in
    few_children c.args.counts _ _ after1 c.if-left-counts.true

pub returns-then-left-counts-2 : goal.returns-then-left-counts-2
returns-then-left-counts-2 c =
    let after1 = after-nodes _ _ c.if-all-counts.false in
    let after2 = after_next _ _ _ _ after1 c.if-left-counts.false in
    few_named c.args.counts _ _ after2 c.if-left-counts-2.true

pub returns-then-left-counts-3 : goal.returns-then-left-counts-3
returns-then-left-counts-3 c =
    let after1 = after-nodes _ _ c.if-all-counts.false in
    let after2 = after_next _ _ _ _ after1 c.if-left-counts.false in
    let after3 = after_next _ _ _ _ after2 c.if-left-counts-2.false in
    few_definitions c.args.counts _ _ after3 c.if-left-counts-3.true

pub returns-then-left-counts-4 : goal.returns-then-left-counts-4
returns-then-left-counts-4 c =
    let after1 = after-nodes _ _ c.if-all-counts.false in
    let after2 = after_next _ _ _ _ after1 c.if-left-counts.false in
    let after3 = after_next _ _ _ _ after2 c.if-left-counts-2.false in
    let after4 = after_next _ _ _ _ after3 c.if-left-counts-3.false in
    few_items c.args.counts _ _ after4 c.if-left-counts-4.true

pub returns-then-left-counts-5 : goal.returns-then-left-counts-5
returns-then-left-counts-5 c =
    let after1 = after-nodes _ _ c.if-all-counts.false in
    let after2 = after_next _ _ _ _ after1 c.if-left-counts.false in
    let after3 = after_next _ _ _ _ after2 c.if-left-counts-2.false in
    let after4 = after_next _ _ _ _ after3 c.if-left-counts-3.false in
    let after5 = after_next _ _ _ _ after4 c.if-left-counts-4.false in
    few_payload c.args.counts _ _ after5 c.if-left-counts-5.true

pub overflow_mul-result : goal.overflow_mul-result
overflow_mul-result c = quarter _ _ c.ranges.work

pub returns : goal.returns
returns c =
    let after1 = after-nodes _ _ c.if-all-counts.false in
    let after2 = after_next _ _ _ _ after1 c.if-left-counts.false in
    let after3 = after_next _ _ _ _ after2 c.if-left-counts-2.false in
    let after4 = after_next _ _ _ _ after3 c.if-left-counts-3.false in
    let after5 = after_next _ _ _ _ after4 c.if-left-counts-4.false in
    enough c.args.counts _ _ (after_next _ _ _ _ after5 c.if-left-counts-5.false)
