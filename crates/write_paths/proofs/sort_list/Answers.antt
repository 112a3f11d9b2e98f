-- `write_paths::sort_list` meets its contract.
use mathlib.Core.Path.{◌∙◌}
use native.Mathlib.Omega.{arith}
use borrow.Author.Tests.{not-true, not-false}
use Rattle.write_paths.proofs.WordLoop.{copied_run}
use Rattle.write_paths.proofs.NodeList.{arranged, arranged-not}
use Rattle.write_paths.proofs.sort_list.Goals as goal

pub returns-then-not-rises : goal.returns-then-not-rises
returns-then-not-rises c =
    let to = c in
    let number = c.number in
    let sort = c.sort in
    arranged-not _ _ _ to.args.layout _ _ _ _ to.requires.0 to.requires.1 number.ensures.1 number.ensures.2 sort.ensures.w_after sort.ensures.w_unchanged
    (sort.auto.w ∙ number.auto.w) _ c.rises.ensures (not-true _ c.if-not-rises.true-raw)

pub returns : goal.returns
returns c =
    let to = c in
    let number = c.number in
    let sort = c.sort in
    let rising = c.rises.ensures in
    let yes = not-false _ c.if-not-rises.false-raw in
    arranged _ _ _ to.args.layout _ _ _ _ to.requires.0 to.requires.1 number.ensures.1 number.ensures.2 sort.ensures.w_after sort.ensures.w_unchanged
    (sort.auto.w ∙ number.auto.w) _ rising yes _ _
    c.gather.ensures (c.copy_within.ensures.after ∙ copied_run _ _ _ _ (omega (arith, c.gather.auto.w, sort.auto.w, number.auto.w)) (omega (arith, c.gather.auto.w, sort.auto.w, number.auto.w)))
