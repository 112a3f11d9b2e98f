-- `write_text_keys::skip` meets its contract. The invariant: `rest` bytes back from x is where `count` bytes back from the start is.
use native.Mathlib.Omega.{arith}
use Prim.Native.Nat.{◌+◌, ◌-◌}
use mathlib.Core.Path.{refl, sym, ap, ◌∙◌}
use Rattle.write_text_keys.specs.Keys.{back}
use Rattle.write_text_keys.proofs.BackwardReads.{back_up}
use Rattle.write_text_keys.proofs.skip.Goals as goal

pub loop-x-init : goal.loop-x-init
loop-x-init c = refl

pub loop-x-preserved : goal.loop-x-preserved
loop-x-preserved c =
    let at = c in
    let to = at.args in
    at.loop-x.invariant ∙ back_up to.source.version to.nodes.now at.loop-x.rest (at.loop-x.rest - (at.loop-x.x.left + 1)) at.loop-x.x (omega arith) ∙ ap (back (at.loop-x.rest - (at.loop-x.x.left + 1)) to.source.version to.nodes.now) (sym c.at_end-x.ensures)

pub returns : goal.returns
returns c =
    let at = c in
    let to = at.args in
    c.back_within.ensures to.source.version to.nodes.now ∙ sym at.loop-x.invariant
