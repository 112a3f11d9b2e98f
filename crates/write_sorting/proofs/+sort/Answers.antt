-- `write_sorting::sort` meets its contract: each half is sorted, and the two are joined.
use Prim.Native.Nat.{ℕ, ◌/◌}
use mathlib.Core.Path.{sym, ◌∙◌}
use native.Mathlib.Omega.{arith}
use lib.ListN.{take, drop}
use lib.Seq.{length-take-le}
use Rattle.texts.specs.Text.{by_key}
use Rattle.write_text_keys.specs.Keys.{key_in}
use Rattle.write_sorting.proofs.Laws.{by_tables, tables_strict, isort-short}
use Rattle.write_sorting.proofs.MergeInPlace.{Halves, halves, halves-sorted, halves-ordered, back}
use Rattle.write_sorting.proofs.+sort.Goals.{After-sort-2}
use Rattle.write_sorting.proofs.+sort.Goals as goal

-- both halves are sorted, the first one behind
both : (t : ℕ) (c : After-sort-2 t) → Halves (by_tables c.args.source.version c.args.nodes.now c.args.strings.now c.args.layout (drop c.args.layout.at c.args.w.now)) c.args.w.now (c.args.n / 2) c.args.n c.args.layout.at
    (back c.args.n c.copy_within.new.self c.sort-2.new.w)
both t c =
    halves (by_tables c.args.source.version c.args.nodes.now c.args.strings.now c.args.layout) c.args.w.now (c.args.n / 2) c.args.n c.args.layout.at (omega arith) (omega arith) (omega arith)
    c.sort.new.w c.copy_within.new.self c.sort-2.new.w
    c.sort.auto.w c.sort.ensures.w_after c.sort.ensures.w_unchanged c.copy_within.ensures.after
    c.sort-2.auto.w c.sort-2.ensures.w_after c.sort-2.ensures.w_unchanged

pub returns-then-n-lt2-clause-w_after : goal.returns-then-n-lt2-clause-w_after
returns-then-n-lt2-clause-w_after t c =
    let key = key_in c.args.source.version c.args.nodes.now c.args.strings.now c.args.layout c.args.w.now in
    sym (isort-short (by_key key) (take c.args.n c.args.w.now) (omega (arith, length-take-le c.args.n c.args.w.now (omega arith))))

pub join_parts-requires-clause-ordered : goal.join_parts-requires-clause-ordered
join_parts-requires-clause-ordered t c =
    let to = c.args in
    halves-ordered (by_tables to.source.version to.nodes.now to.strings.now to.layout) (tables_strict to.source.version to.nodes.now to.strings.now to.layout) to.w.now (to.n / 2) to.n to.layout.at
    (back to.n c.copy_within.new.self c.sort-2.new.w) (both t (goal.at.join_parts-requires-clause-ordered t c).After-sort-2)

pub returns-clause-w_after : goal.returns-clause-w_after
returns-clause-w_after t c =
    let to = c.args in
    c.join_parts.ensures.w_after
    ∙ halves-sorted (by_tables to.source.version to.nodes.now to.strings.now to.layout) (tables_strict to.source.version to.nodes.now to.strings.now to.layout) to.w.now (to.n / 2) to.n to.layout.at
    (back to.n c.copy_within.new.self c.sort-2.new.w) (both t (goal.at.returns-clause-w_after t c).After-sort-2) (omega arith)

pub returns-clause-w_unchanged : goal.returns-clause-w_unchanged
returns-clause-w_unchanged t c = c.join_parts.ensures.w_unchanged ∙ (both t (goal.at.returns-clause-w_unchanged t c).After-sort-2).behind
