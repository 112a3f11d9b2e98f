-- `utf8::valid_short` meets its contract. The invariant: whole sequences have passed.
use mathlib.Core.Path.{refl}
use native.Mathlib.Omega.{arith}
use Rattle.utf8.specs.Utf8.{rows, size_in, utf8}
use Rattle.utf8.proofs.Runs.{passes_none, passes-next, piece_end, run_all, run_not, advances_not}
use Rattle.utf8.proofs.Table.{size_le}
use Rattle.utf8.proofs.Blocks.{ascii_run}
use Rattle.utf8.proofs.valid_short.Goals as goal

pub loop-i-init : goal.loop-i-init
loop-i-init c = ascii_run c.requires

pub returns-then-k-eq0 : goal.returns-then-k-eq0
unfolding utf8
returns-then-k-eq0 c =
    let l = c.loop-i in
    let k = c.sequence-k in
    run_not l.invariant (advances_not k.result (passes_none l.i (omega arith)) (omega arith) k.ensures c.if-k-eq0.true) refl

pub overflow_add-i : goal.overflow_add-i
overflow_add-i c =
    let a = c.args in
    let l = c.loop-i in
    let k = c.sequence-k in
    let e = piece_end (size_in rows) (size_le rows) a.s.now l.i k.result (omega arith) k.ensures in
    omega arith

pub loop-i-smaller : goal.loop-i-smaller
loop-i-smaller c =
    let a = c.args in
    let l = c.loop-i in
    let k = c.sequence-k in
    let e = piece_end (size_in rows) (size_le rows) a.s.now l.i k.result (omega arith) k.ensures in
    omega arith

pub loop-i-preserved : goal.loop-i-preserved
loop-i-preserved c =
    let a = c.args in
    let l = c.loop-i in
    let k = c.sequence-k in
    let e = piece_end (size_in rows) (size_le rows) a.s.now l.i k.result (omega arith) k.ensures in
    passes-next k.result l.invariant (omega arith) k.ensures c.if-k-eq0.false e

pub returns : goal.returns
unfolding utf8
returns c = run_all c.loop-i.invariant c.loop-i-test.false
