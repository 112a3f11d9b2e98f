-- `utf8::blocks_short` meets its contract. The invariant: where the faults so far are 0, all bytes so far are below 0xe0 and right.
use native.Mathlib.Omega.{arith}
use Rattle.utf8.proofs.ShortBlocks.{short-start, short-next, short_all}
use Rattle.utf8.proofs.blocks_short.Goals as goal

pub loop-j-init : goal.loop-j-init
loop-j-init c =
    let a = c.args in
    short-start a.s.now a.at c.bit.result c.bit-2.result c.bit-3.result c.bit.ensures c.bit-2.ensures c.bit-3.ensures

pub loop-j-preserved : goal.loop-j-preserved
loop-j-preserved c =
    let a = c.args in
    let l = c.loop-j in
    short-next a.s.now a.at l.j l.e c.short_fault-e.result l.invariant c.short_fault-e.ensures

pub returns : goal.returns
returns c =
    let a = c.args in
    let l = c.loop-j in
    short_all a.s.now a.at l.j 64 l.e l.invariant (omega arith)
