-- `draft::tables::nodes_rule` meets its contract. The invariant: the nodes before `i` pass, the sums are theirs, and the hint and the window are for `i`.
use Prim.Native.Nat.{◌≤◌, ◌-◌}
use Rattle.draft.specs.Source.{draft_of}
use Rattle.draft.specs.PathEntries.{Hinted}
use Rattle.draft.specs.PathWindows.{Ready}
use Rattle.draft.proofs.NodeTable.{Passing}
use Rattle.draft.proofs.tables.nodes_rule.Given as goal

abbrev pub invariant-loop-i : goal.invariant-loop-i
invariant-loop-i l =
    (l.i ≤ l.counts.nodes) × Passing (draft_of l.source.version l.draft.nodes.now l.draft.children.now l.draft.named.now l.draft.definitions.now l.draft.items.now l.draft.payload.now l.draft.strings.now) l.paths l.i l.sums × Hinted l.paths l.i l.hint × Ready l.paths l.i l.hint.rises l.window

abbrev pub decreases-loop-i : goal.decreases-loop-i
decreases-loop-i l = l.counts.nodes - l.i
