-- `target_finding::targets_rule` meets its contract. The loop's invariant: the lowest node of an entry before k that has failed, and what was found.
use mathlib.Core.Path.{ap}
use Rattle.image.specs.Refusals.{numbered}
use native.Mathlib.Omega.{arith}
use Rattle.draft.proofs.NodeCount.{below-count}
use borrow.Author.Rules.{rules}
use Rattle.target_finding.proofs.Finding.{entry-inside}
use Rattle.target_finding.proofs.EntryLoop.{entries-start, entry-among, entry-room, entries-lower, entries_higher, entries_next, entries_end}
use Rattle.target_finding.proofs.targets_rule.Goals as goal

pub fill_none-requires : goal.fill_none-requires
fill_none-requires c = omega (arith, c.node_count-total.ensures, c.requires.0)

pub loop-k-init : goal.loop-k-init
loop-k-init c = entries-start _ _ _ _ _ _ _ _ c.fill_none.new.work c.args.work.now c.requires.0 (search rules) _ c.node_count-total.ensures c.fill_none.ensures

pub entry_at-entry-requires : goal.entry_at-entry-requires
entry_at-entry-requires c = below-count _ _ c.path_count-count.ensures _ c.loop-k-test.true

pub entry_target-requires : goal.entry_target-requires
entry_target-requires c =
    let pre = c.requires in
    let so = c.loop-k.invariant in
    let below = below-count _ _ c.path_count-count.ensures _ c.loop-k-test.true in
    let read = c.entry_at-entry.ensures in
    let to = c.args in (
      entry-among _ _ _ _ _ _ _ _ _ _ _ _ _ so pre.2 below _ read,
      entry-inside to.paths.now to.components.now _ below pre.1 _ read,
    )

pub bounds-work-node : goal.bounds-work-node
bounds-work-node c =
    let pre = c.requires in
    let so = c.loop-k.invariant in
    let below = below-count _ _ c.path_count-count.ensures _ c.loop-k-test.true in
    let read = c.entry_at-entry.ensures in
    let room = entry-room _ _ _ _ _ _ _ _ _ _ _ _ _ so pre.2 below _ read in
    omega (arith, room)

pub loop-k-preserved : goal.loop-k-preserved
loop-k-preserved c =
    let pre = c.requires in
    let so = c.loop-k.invariant in
    let below = below-count _ _ c.path_count-count.ensures _ c.loop-k-test.true in
    let read = c.entry_at-entry.ensures in
    let end = c.entry_target.ensures in
    elim c.match-entry_target.branch [
      | goal.in-Err+then-node-failing w ↦ rw (w.work-is, w.failing-is, w.answer-is)
          (entries-lower _ _ _ _ _ _ _ _ _ _ _ _ _ so pre.2 below _ read pre.3 _ end _ (ap numbered w.in-Err.is) w.if-node-failing.true)
      | goal.in-Err+else-node-failing w ↦ rw (w.work-is, w.failing-is, w.answer-is)
          (entries_higher _ _ _ _ _ _ _ _ _ _ _ _ _ so pre.2 below _ read pre.3 _ end _ (ap numbered w.in-Err.is) w.if-node-failing.false)
      | goal.in-Ok w ↦ rw (w.work-is, w.failing-is, w.answer-is)
          (entries_next _ _ _ _ _ _ _ _ _ _ _ _ _ so pre.2 below _ read pre.3 _ end _ (ap numbered w.in-Ok.is))
    ]

pub returns : goal.returns
returns c = entries_end _ _ _ _ _ _ _ _ _ _ _ _ _ c.loop-k.invariant _ c.path_count-count.ensures c.loop-k-test.false
