-- `draft::path_list::fill_window` meets its contract. The invariant: the nodes of the entries so far are marked, and `twice` tells whether each was new.
use borrow.Author.Rules.{rules}
use Rattle.draft.proofs.Windows.{filled-starts, filled_goes, filled-ends, once-starts, once_goes, once-ends}
use Rattle.draft.proofs.path_list.fill_window.Goals as goal

pub loop-k-init : goal.loop-k-init
loop-k-init c = (search rules, filled-starts _ _ _ _ c.clear.ensures, once-starts _ _)

pub loop-k-preserved : goal.loop-k-preserved
loop-k-preserved c =
    let loop = c in
    let read = c.origin_at.ensures in
    let marks = c.mark-twice.ensures in
    (search rules, filled_goes _ _ _ _ read _ loop.loop-k.invariant.1 _ marks.by_index, once_goes _ _ _ _ read _ loop.loop-k.invariant.1 loop.loop-k.twice c.mark-twice.result marks.result_value loop.loop-k.invariant.2)

pub returns : goal.returns
returns c =
    let loop = c in
    let counted = loop.path_count-count.ensures in
    record {
      value = once-ends _ _ _ _ counted loop.loop-k.invariant.0 c.loop-k-test.false loop.loop-k.twice loop.loop-k.invariant.2;
      marks = filled-ends _ _ _ _ counted loop.loop-k.invariant.0 c.loop-k-test.false _ loop.loop-k.invariant.1;
    }
