-- `write_paths::rises` meets its contract.
use Prim.Native.Nat.{ℕ, ◌-◌}
use mathlib.Core.Path.{refl, ◌∙◌}
use mathlib.Core.Bool.{Bool}
use lib.ListN.{get_or}
use Rattle.std.proofs.Common.{rules, tests}
use Rattle.std.proofs.lemmas.Iterator.{YieldsList-from_range}
use Rattle.std.proofs.lemmas.Iterator.Search.{all_from_yields_List}
use Rattle.texts.specs.Text.{by_key, rising}
use Rattle.write_text_keys.specs.Keys.{key_in}
use Rattle.draft.proofs.Ranges.{all_range}
use Rattle.write_paths.proofs.NodeList.{rises_none, rises_at_lem}
use Rattle.write_paths.proofs.rises.Goals as goal

pub returns : goal.returns
returns c =
    let key = key_in c.args.source.version c.args.nodes.now c.args.strings.now c.args.layout c.args.w.now in
    let w = c.args.w.now in
    let test : ℕ → Bool = λ i. by_key key (get_or w (i - 1) 0) (get_or w i 0) in
    all_from_yields_List test _ _ c.all.result c.all.ensures.ran (YieldsList-from_range 1 c.args.n (c.args.n - 1) refl refl) (λ x b q k. search (rules, tests))
    ∙ all_range test (rising (λ i. key (get_or w i 0))) 1 c.args.n (rises_none key w) (λ i h k. rises_at_lem key w i h)
