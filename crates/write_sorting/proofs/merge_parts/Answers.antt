-- `write_sorting::merge_parts` meets its contract.
use Prim.Native.Nat.{ℕ}
use mathlib.Core.Path.{◌≡◌, sym, ap, ◌∙◌}
use mathlib.Core.List.{List}
use mathlib.Core.Bool.{Bool}
use native.Mathlib.Omega.{arith}
use lib.ListN.{drop}
use Rattle.write_sorting.specs.Sorted.{takes_right}
use Rattle.write_sorting.proofs.Laws.{by_tables}
use Rattle.write_sorting.proofs.MergeInPlace.{placing_none, placing_left, placing_right, placing_done, placing_behind}
use Rattle.write_sorting.proofs.merge_parts.Goals.{At-loop-i}
use Rattle.write_sorting.proofs.merge_parts.Goals as goal

-- the tables stay
behind : (c : At-loop-i) → drop c.args.layout.at c.loop-i.w ≡ drop c.args.layout.at c.args.w.now
behind c =
    placing_behind (by_tables c.args.source.version c.args.nodes.now c.args.strings.now c.args.layout (drop c.args.layout.at c.args.w.now)) c.args.w.now c.args.m c.args.n c.requires.0 (omega arith) c.loop-i.w c.loop-i.i c.loop-i.j c.loop-i.k c.loop-i.invariant c.args.layout.at (omega arith)

pub loop-i-init : goal.loop-i-init
loop-i-init c =
    let to = c.args in
    placing_none (by_tables to.source.version to.nodes.now to.strings.now to.layout (drop to.layout.at to.w.now)) to.w.now to.m to.n c.requires.0 (omega arith)

pub loop-i-preserved : goal.loop-i-preserved
loop-i-preserved c =
    let to = c.args in
    let order : List ℕ → ℕ → ℕ → Bool = by_tables to.source.version to.nodes.now to.strings.now to.layout in
    let same = ap (λ (d : List ℕ). takes_right (order d) c.loop-i.w to.n c.loop-i.i c.loop-i.j) (behind (goal.at.loop-i-preserved c).At-loop-i) in
    elim c.if-takes_right.branch [
      | goal.then-takes_right w ↦ rw (w.w-is, w.i-is, w.j-is)
          (placing_right (order (drop to.layout.at to.w.now)) to.w.now to.m to.n c.requires.0 (omega arith) c.loop-i.w c.loop-i.i c.loop-i.j c.loop-i.k c.loop-i.invariant
          c.loop-i-test.true (sym (c.takes_right.ensures ∙ same) ∙ w.if-takes_right.true))
      | goal.else-takes_right w ↦ rw (w.w-is, w.i-is, w.j-is)
          (placing_left (order (drop to.layout.at to.w.now)) to.w.now to.m to.n c.requires.0 (omega arith) c.loop-i.w c.loop-i.i c.loop-i.j c.loop-i.k c.loop-i.invariant
          c.loop-i-test.true (sym (c.takes_right.ensures ∙ same) ∙ w.if-takes_right.false))
    ]

pub returns : goal.returns
returns c =
    let to = c.args in
    record {
      w_after = placing_done (by_tables to.source.version to.nodes.now to.strings.now to.layout (drop to.layout.at to.w.now)) to.w.now to.m to.n c.requires.0 (omega arith) c.loop-i.w c.loop-i.i c.loop-i.j c.loop-i.k c.loop-i.invariant c.loop-i-test.false;
      w_unchanged = behind (goal.at.returns c).At-loop-i;
    }
