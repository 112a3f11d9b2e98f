-- `utf8::ascii_head` meets its contract. The invariant: the bytes so far are ASCII.
use Prim.Native.Nat.{◌-◌}
use mathlib.Core.Path.{sym, ◌∙◌}
use native.Mathlib.Omega.{arith}
use borrow.Author.Tests.{not-false}
use lib.ListN.{length}
use Rattle.utf8.proofs.Blocks.{ascii-none, ascii-next, ascii-over}
use Rattle.utf8.proofs.ascii_head.Goals as goal

pub returns-then-s-ge128 : goal.returns-then-s-ge128
returns-then-s-ge128 c = ascii-none _

pub loop-i-init : goal.loop-i-init
loop-i-init c = ascii-none _

pub returns-then-not-all_ascii : goal.returns-then-not-all_ascii
returns-then-not-all_ascii c = c.loop-i.invariant

pub loop-i-preserved : goal.loop-i-preserved
loop-i-preserved c =
    let f = c.all_ascii in
    ascii-next 8 c.loop-i.invariant (omega arith) (sym f.ensures ∙ not-false f.result c.if-not-all_ascii.false-raw)

pub returns-then-i-s : goal.returns-then-i-s
returns-then-i-s c = c.loop-i.invariant

pub returns-then-all_ascii : goal.returns-then-all_ascii
returns-then-all_ascii c =
    let s = c.args.s.now in
    let f = c.all_ascii-2 in
    ascii-over (length s - 8) 8 (length s) c.loop-i.invariant (omega arith) (omega arith) (omega arith) (sym f.ensures ∙ c.if-all_ascii.true)

pub returns : goal.returns
returns c = c.loop-i.invariant
