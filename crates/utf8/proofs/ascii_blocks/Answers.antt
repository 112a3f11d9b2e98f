-- The invariant: the bytes so far are ASCII.
use mathlib.Core.Path.{sym, ◌∙◌}
use native.Mathlib.Omega.{arith}
use borrow.Author.Tests.{not-false}
use Rattle.utf8.proofs.Blocks.{ascii-next}
use Rattle.utf8.proofs.ascii_blocks.Goals as goal

pub returns-then-not-all_ascii : goal.returns-then-not-all_ascii
returns-then-not-all_ascii g c = c.loop-i.invariant

pub loop-i-preserved : goal.loop-i-preserved
loop-i-preserved g c =
    let f = c.all_ascii in
    ascii-next _ c.loop-i.invariant (omega arith) (sym f.ensures ∙ not-false f.result c.if-not-all_ascii.false-raw)

pub returns : goal.returns
returns g c = c.loop-i.invariant
