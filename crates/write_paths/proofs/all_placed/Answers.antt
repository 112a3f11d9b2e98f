-- `write_paths::all_placed` meets its contract.
use Prim.Native.Nat.{ℕ, ◌-◌}
use mathlib.Core.Path.{refl, ◌∙◌}
use mathlib.Core.Bool.{Bool}
use native.Mathlib.Omega.{arith}
use Rattle.std.proofs.Common.{rules, tests}
use Rattle.std.proofs.lemmas.Iterator.{YieldsList-from_range}
use Rattle.std.proofs.lemmas.Iterator.Search.{all_from_yields_List}
use Rattle.image.specs.Entries.{record_of}
use Rattle.draft.specs.Draft.{placed}
use Rattle.draft.proofs.Ranges.{all_range}
use Rattle.write_paths.specs.Listed.{placed_in}
use Rattle.write_paths.proofs.ContainerLoops.{placed_record}
use Rattle.write_paths.proofs.all_placed.Goals as goal

pub returns : goal.returns
returns c =
    let nodes = c.args.nodes.now in
    let v = c.args.source.version in
    let test : ℕ → Bool = λ i. placed_in (record_of v nodes i) i in
    λ s e z.
    all_from_yields_List test _ _ c.all.result c.all.ensures.ran (YieldsList-from_range 0 c.args.count (c.args.count - 0) refl refl) (λ x b q k. search (rules, tests))
    ∙ all_range test (placed s) 0 c.args.count (λ i h. absurd (omega arith)) (λ i h k. placed_record s v nodes i e z)
