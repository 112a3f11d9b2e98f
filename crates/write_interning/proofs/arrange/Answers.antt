-- `write_interning::arrange` meets its contract.
use Prim.Native.Nat.{ℕ}
use mathlib.Core.Path.{◌∙◌}
use mathlib.Core.List.{List}
use native.Mathlib.Omega.{arith}
use Rattle.draft.specs.declared.layout.Layout.{Layout}
use Rattle.write_text_keys.specs.Keys.{key_of}
use Rattle.write_interning.proofs.Numbers.{Parts, parts, parts-ordered, parts_merged}
use Rattle.write_interning.proofs.arrange.Goals.{After-number-2}
use Rattle.write_interning.proofs.arrange.Goals as goal

-- the texts that tables say
abbrev by : ℕ → List ℕ → List ℕ → Layout → List ℕ → ℕ → List ℕ
by version nodes strings l tables = key_of version nodes strings l.texts l.paths l.lengths tables

two : (c : After-number-2) → Parts (by c.args.source.version c.args.nodes.now c.args.strings.now c.args.layout) c.args.w.now c.number-2.new.w c.args.layout.texts c.args.n c.args.layout.at
two c =
    let one = c.number in
    let s = c.ensure_sorted in
    parts (by c.args.source.version c.args.nodes.now c.args.strings.now c.args.layout) c.args.w.now c.number-2.new.w c.args.layout.texts c.args.n c.args.layout.at one.new.w s.new.w (omega arith) (omega arith)
    one.ensures.1 one.ensures.2 s.ensures.w_after s.ensures.w_unchanged c.number-2.ensures.0 c.number-2.ensures.1 c.number-2.ensures.2

pub merge-requires-clause-ordered : goal.merge-requires-clause-ordered
merge-requires-clause-ordered c =
    let to = c.args in
    parts-ordered (by to.source.version to.nodes.now to.strings.now to.layout) to.w.now c.number-2.new.w to.layout.texts to.n to.layout.at (two (goal.at.merge-requires-clause-ordered c).After-number-2)

pub returns : goal.returns
returns c =
    let to = c.args in
    let P = two (goal.at.returns c).After-number-2 in
    record {
      w_after = c.merge.ensures.w_after ∙ parts_merged (by to.source.version to.nodes.now to.strings.now to.layout) to.w.now c.number-2.new.w to.layout.texts to.n to.layout.at P (omega arith) c.requires.rises_from;
      w_unchanged = c.merge.ensures.w_unchanged ∙ P.behind;
    }
