-- `write_text_keys::put_read` meets its contract. The invariant: the bytes from `left` on are written, and those before x are left.
use native.Mathlib.Omega.{arith}
use mathlib.Core.Path.{sym, ◌∙◌}
use Prim.Native.Nat.{◌-◌}
use Rattle.write_text_keys.proofs.BackwardReads.{read_put, read_none}
use Rattle.write_text_keys.proofs.put_read.Goals as goal

pub loop-left-preserved : goal.loop-left-preserved
loop-left-preserved c =
    let to = c.args in
    c.loop-left.invariant
    ∙ read_put to.source.version to.nodes.now to.strings.now (c.loop-left.left - 1) c.loop-left.left c.last_byte.result c.loop-left.x c.loop-left.out (omega arith) (omega arith) c.last_byte.ensures
    ∙ rw c.step_back-x.ensures

pub returns : goal.returns
returns c =
    let to = c.args in
    sym (c.loop-left.invariant ∙ read_none to.source.version to.nodes.now to.strings.now c.loop-left.left c.loop-left.x c.loop-left.out (omega arith))
