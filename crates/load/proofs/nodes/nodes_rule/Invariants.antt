-- `load::nodes::nodes_rule` meets its contract. The invariant: of any sections that are read from the parts, the nodes before `i` pass,
use Prim.Native.Nat.{◌≤◌, ◌-◌}
use Rattle.image.specs.Sections.{Sections}
use Rattle.load.specs.Nodes.{ReadFrom}
use Rattle.load.proofs.NodeLoop.{Passing}
use Rattle.load.proofs.nodes.nodes_rule.Given as goal

abbrev pub invariant-loop-i : goal.invariant-loop-i
invariant-loop-i l =
    (l.i ≤ l.counts.nodes) × ((s : Sections) → ReadFrom s l.view.version l.nodes l.payload l.strings l.counts → Passing s l.i l.sums)

abbrev pub decreases-loop-i : goal.decreases-loop-i
decreases-loop-i l = l.counts.nodes - l.i
