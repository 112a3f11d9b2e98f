-- `utf8::valid_after` meets its contract.
use mathlib.Core.Path.{sym, ◌∙◌}
use native.Mathlib.Omega.{arith}
use borrow.Author.Tests.{not-true, not-false}
use Rattle.utf8.proofs.Blocks.{passed_none, ascii-passed, starts-wrong}
use Rattle.utf8.proofs.valid_after.Goals as goal

pub valid_from-requires : goal.valid_from-requires
valid_from-requires c = (omega arith, ascii-passed c.requires.1 (omega arith))

pub returns-then-not-start_right : goal.returns-then-not-start_right
returns-then-not-start_right c =
    let f = c.start_right in
    starts-wrong _ (omega arith) (sym f.ensures ∙ not-true f.result c.if-not-start_right.true-raw)

pub valid_from-requires-2 : goal.valid_from-requires-2
valid_from-requires-2 c =
    let f = c.start_right in
    (omega arith, passed_none _ (omega arith) (sym f.ensures ∙ not-false f.result c.if-not-start_right.false-raw))
