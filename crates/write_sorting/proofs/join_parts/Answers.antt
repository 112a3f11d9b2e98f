-- `write_sorting::join_parts` meets its contract.
use Prim.Native.Nat.{◌+◌, ◌-◌}
use mathlib.Core.Path.{◌≡◌, sym, ap, ◌∙◌}
use native.Mathlib.Omega.{arith}
use lib.ListN.{drop, length-drop}
use lib.Seq.{paste}
use Rattle.texts.specs.Text.{by_key}
use Rattle.write_text_keys.specs.Keys.{key_in}
use Rattle.write_sorting.proofs.Laws.{key_strict}
use Rattle.write_sorting.proofs.MergeInPlace.{down-joined, paste-behind}
use Rattle.write_sorting.proofs.join_parts.Goals as goal

pub returns-else-below : goal.returns-else-below
returns-else-below c =
    let w = c.args.w.now in
    let m = c.args.m in
    let n = c.args.n in
    let key = key_in c.args.source.version c.args.nodes.now c.args.strings.now c.args.layout w in
    let count : n + m - n ≡ m = omega arith in
    let copied : c.copy_within.new.self ≡ paste w 0 (drop n w) m = c.copy_within.ensures.after ∙ ap (paste w 0 (drop n w)) count in
    record {
      w_after = down-joined (by_key key) w c.copy_within.new.self m n (key_strict key) (omega arith) (omega arith) (omega arith) c.requires.ordered (sym c.below.ensures ∙ c.if-below.false) copied;
      w_unchanged = ap (drop c.args.layout.at) copied
          ∙ paste-behind w (drop n w) 0 m c.args.layout.at (omega arith) (omega (arith, length-drop n w)) (omega arith);
    }
