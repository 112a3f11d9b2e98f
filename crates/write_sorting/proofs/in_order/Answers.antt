-- `write_sorting::in_order` meets its contract.
use mathlib.Core.Path.{refl, sym, ◌∙◌}
use mathlib.Core.Bool.{Bool, not}
use Prim.Native.Nat.{ℕ, ◌-◌}
use lib.ListN.{get_or}
use Rattle.std.proofs.Common.{rules, tests}
use Rattle.std.proofs.lemmas.Iterator.{YieldsList-from_range}
use Rattle.std.proofs.lemmas.Iterator.Search.{all_from_yields_List}
use Rattle.texts.specs.Text.{by_key}
use Rattle.write_text_keys.specs.Keys.{key_in}
use Rattle.write_sorting.proofs.Laws.{key_strict}
use Rattle.write_sorting.proofs.OrderedLists.{neighbours-ordered}
use Rattle.write_sorting.proofs.in_order.Goals as goal

pub returns : goal.returns
returns c e =
    let key = key_in c.args.source.version c.args.nodes.now c.args.strings.now c.args.layout c.args.w.now in
    let w = c.args.w.now in
    let test : ℕ → Bool = λ i. not (by_key key (get_or w i 0) (get_or w (i - 1) 0)) in
    let all = all_from_yields_List test _ _ c.all.result c.all.ensures.ran (YieldsList-from_range 1 c.args.n (c.args.n - 1) refl refl) (λ x b q k. search (rules, tests)) in
    neighbours-ordered (by_key key) (key_strict key) w c.args.n c.requires.0 (sym all ∙ e)
