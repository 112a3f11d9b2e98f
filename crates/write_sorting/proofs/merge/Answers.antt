-- `write_sorting::merge` meets its contract: the first part is copied behind, and the two are joined.
use mathlib.Core.Path.{refl, ◌∙◌}
use native.Mathlib.Omega.{arith}
use Rattle.texts.specs.Text.{by_key}
use Rattle.write_text_keys.specs.Keys.{key_in}
use Rattle.write_sorting.proofs.Laws.{by_tables}
use Rattle.write_sorting.proofs.MergeInPlace.{Copied, copied, copied-ordered, copied_merged, merged_none, merged_all}
use Rattle.write_sorting.proofs.merge.Goals.{After-copy_within}
use Rattle.write_sorting.proofs.merge.Goals as goal

up : (c : After-copy_within) → Copied c.args.w.now c.args.m c.args.n c.args.layout.at c.copy_within.new.self
up c = copied c.args.w.now c.copy_within.new.self c.args.m c.args.n c.args.layout.at (omega arith) (omega arith) (omega arith) c.copy_within.ensures.after

pub returns-then-m-eq0 : goal.returns-then-m-eq0
returns-then-m-eq0 c =
    let key = key_in c.args.source.version c.args.nodes.now c.args.strings.now c.args.layout c.args.w.now in
    record { w_after = merged_none (by_key key) c.args.w.now c.args.m c.args.n c.if-m-eq0.true; w_unchanged = refl }

pub returns-then-m-n : goal.returns-then-m-n
returns-then-m-n c =
    let key = key_in c.args.source.version c.args.nodes.now c.args.strings.now c.args.layout c.args.w.now in
    record { w_after = merged_all (by_key key) c.args.w.now c.args.m c.args.n c.if-m-n.true; w_unchanged = refl }

pub join_parts-requires-clause-ordered : goal.join_parts-requires-clause-ordered
join_parts-requires-clause-ordered c =
    let to = c.args in
    copied-ordered (by_tables to.source.version to.nodes.now to.strings.now to.layout) to.w.now c.copy_within.new.self to.m to.n to.layout.at (up (goal.at.join_parts-requires-clause-ordered c).After-copy_within) c.requires.ordered

pub returns : goal.returns
returns c =
    let to = c.args in
    let C = up (goal.at.returns c).After-copy_within in
    record {
      w_after = c.join_parts.ensures.w_after ∙ copied_merged (by_tables to.source.version to.nodes.now to.strings.now to.layout) to.w.now c.copy_within.new.self to.m to.n to.layout.at C;
      w_unchanged = c.join_parts.ensures.w_unchanged ∙ C.behind;
    }
