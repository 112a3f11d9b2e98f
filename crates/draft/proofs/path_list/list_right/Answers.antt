-- `draft::path_list::list_right` meets its contract. The invariant: each entry so far is right by itself.
use mathlib.Core.Path.{sym, ◌∙◌}
use borrow.Author.Rules.{rules}
use Rattle.draft.proofs.Runs.{all_starts, all_stops, all_goes, all_ends}
use Rattle.draft.proofs.PathLists.{list-broken, list-many, list-unfit, list-decides, list-rises, fits_read, all_inside}
use Rattle.draft.proofs.path_list.list_right.Goals as goal

pub returns-then-entries-ne0 : goal.returns-then-entries-ne0
returns-then-entries-ne0 c = list-broken _ _ _ c.if-entries-ne0.true

pub returns-then-nodes-count : goal.returns-then-nodes-count
returns-then-nodes-count c = list-many _ _ _ _ c.path_count-count.ensures c.if-nodes-count.true

pub loop-k-init : goal.loop-k-init
loop-k-init c = (search rules, all_starts _)

pub returns-then-not-entry_right : goal.returns-then-not-entry_right
returns-then-not-entry_right c =
    let counted = c.path_count-count.ensures in
    list-unfit _ _ _ _ counted (all_stops _ _ _ c.entry_right.ensures _ c.loop-k-test.true c.if-not-entry_right.true-raw)

pub loop-k-preserved : goal.loop-k-preserved
loop-k-preserved c = (search rules, all_goes _ _ _ c.entry_right.ensures c.loop-k.invariant.1 c.if-not-entry_right.false-raw)

pub returns-then-paths_rise : goal.returns-then-paths_rise
returns-then-paths_rise c =
    let loop = c in
    let counted = loop.path_count-count.ensures in
    let fits = all_ends _ _ _ loop.loop-k.invariant.0 c.loop-k-test.false loop.loop-k.invariant.1 in
    list-rises _ _ _ _ counted loop.if-entries-ne0.false fits (sym c.paths_rise.ensures ∙ c.if-paths_rise.true)

pub none_twice-requires : goal.none_twice-requires
none_twice-requires c =
    let loop = c in
    let counted = loop.path_count-count.ensures in
    let fits = all_ends _ _ _ loop.loop-k.invariant.0 c.loop-k-test.false loop.loop-k.invariant.1 in
    all_inside _ _ _ (fits_read _ _ _ _ counted fits)

pub returns : goal.returns
returns c =
    let loop = c in
    let counted = loop.path_count-count.ensures in
    let fits = all_ends _ _ _ loop.loop-k.invariant.0 c.loop-k-test.false loop.loop-k.invariant.1 in
    list-decides _ _ _ _ counted loop.if-entries-ne0.false fits _ c.none_twice.ensures
