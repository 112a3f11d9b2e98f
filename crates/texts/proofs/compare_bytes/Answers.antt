-- The invariant: what is left of the two is ordered as the two are.
use native.Mathlib.Omega.{arith}
use mathlib.Core.Path.{sym, ◌∙◌}
use Rattle.texts.proofs.Text.{byte-like, byte-less, byte_more, first-longer, second-longer, both_end}
use Rattle.texts.proofs.compare_bytes.Goals as goal

pub loop-i-init : goal.loop-i-init
loop-i-init c = c.requires.rest

pub returns-then-a-i-2 : goal.returns-then-a-i-2
returns-then-a-i-2 c =
    let x = c.args in
    sym (c.loop-i.invariant ∙ byte-less x.a.now x.b.now c.loop-i.i (omega arith) (omega arith) c.if-a-i-2.true)

pub returns-else-a-i-2 : goal.returns-else-a-i-2
returns-else-a-i-2 c =
    let x = c.args in
    sym (c.loop-i.invariant ∙ byte_more x.a.now x.b.now c.loop-i.i (omega arith) (omega arith) (omega arith))

pub loop-i-preserved : goal.loop-i-preserved
loop-i-preserved c =
    let x = c.args in
    c.loop-i.invariant ∙ byte-like x.a.now x.b.now c.loop-i.i (omega arith) (omega arith) c.if-a-i.false

pub returns-then-n-a : goal.returns-then-n-a
returns-then-n-a c =
    let x = c.args in
    sym (c.loop-i.invariant ∙ first-longer x.a.now x.b.now c.loop-i.i (omega arith) (omega arith))

pub returns-then-n-b : goal.returns-then-n-b
returns-then-n-b c =
    let x = c.args in
    sym (c.loop-i.invariant ∙ second-longer x.a.now x.b.now c.loop-i.i (omega arith) (omega arith))

pub returns-else-n-b : goal.returns-else-n-b
returns-else-n-b c =
    let x = c.args in
    sym (c.loop-i.invariant ∙ both_end x.a.now x.b.now c.loop-i.i (omega arith) (omega arith))
