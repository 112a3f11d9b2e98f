-- `draft::path_list::paths_rise` meets its contract.
use Prim.Native.Nat.{◌-◌}
use mathlib.Core.Path.{refl, ◌∙◌}
use Rattle.std.proofs.Common.{rules, tests}
use Rattle.std.proofs.lemmas.Iterator.{YieldsList-from_range}
use Rattle.std.proofs.lemmas.Iterator.Search.{all_from_yields_List}
use Rattle.draft.proofs.PathLists.{rises_to, rise_told}
use Rattle.draft.proofs.path_list.paths_rise.Goals as goal

pub returns : goal.returns
returns c =
    let entries = c.args.entries.now in
    let n = c.path_count.result in
    all_from_yields_List (rises_to entries) _ _ c.all.result c.all.ensures.ran (YieldsList-from_range 1 n (n - 1) refl refl) (λ x b q k. search (rules, tests))
    ∙ rise_told entries n c.path_count.ensures
