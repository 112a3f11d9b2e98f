-- Blocks that may lie over bytes that are ASCII already.
use Prim.Native.Nat.{◌-◌}
use mathlib.Core.Path.{sym, ◌∙◌}
use native.Mathlib.Omega.{arith}
use borrow.Author.Tests.{not-false}
use lib.ListN.{length}
use Rattle.utf8.proofs.Blocks.{ascii-next, ascii-over}
use Rattle.utf8.proofs.ascii_last.Goals as goal

pub returns-then-all_ascii : goal.returns-then-all_ascii
returns-then-all_ascii c =
    let start = c in
    let s = start.args.s.now in
    let f = c.all_ascii in
    ascii-over (length s - 32) 32 (length s) start.requires.2 (omega arith) (omega arith) (omega arith) (sym f.ensures ∙ c.if-all_ascii.true)

pub returns-then-all_ascii-2 : goal.returns-then-all_ascii-2
returns-then-all_ascii-2 c =
    let first = c in
    let start = first in
    let s = start.args.s.now in
    let f = first.all_ascii-2 in
    let g = c.all_ascii-3 in
    ascii-over (length s - 32) 32 (length s)
    (ascii-next 32 start.requires.2 (omega arith) (sym f.ensures ∙ not-false f.result c.if-not-all_ascii.false-raw))
    (omega arith) (omega arith) (omega arith) (sym g.ensures ∙ c.if-all_ascii-2.true)

pub returns : goal.returns
returns c =
    let first = c in
    let start = first in
    let f = first.all_ascii-2 in
    ascii-next 32 start.requires.2 (omega arith) (sym f.ensures ∙ not-false f.result c.if-not-all_ascii.false-raw)
