-- The invariant: both are alike so far.
use mathlib.Core.Path.{◌≡◌, sym, ◌∙◌}
use Prim.Native.Nat.{◌+◌, ◌*◌}
use native.Mathlib.Omega.{arith}
use borrow.Author.Tests.{not-false}
use Rattle.texts.proofs.Blocks.{alike-none, alike_block}
use Rattle.texts.proofs.alike_blocks.Goals as goal

pub loop-block-init : goal.loop-block-init
loop-block-init c = alike-none _ _

pub loop-block-preserved : goal.loop-block-preserved
loop-block-preserved c =
    let f = c.block_alike in
    let k = c.loop-block.block in
    let next : 64 * (k + 1) ≡ 64 * k + 64 = omega arith in
    rw next (alike_block 64 c.loop-block.invariant (omega arith) (omega arith) (sym f.ensures ∙ not-false f.result c.if-not-block_alike.false-raw))
