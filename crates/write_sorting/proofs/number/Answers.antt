-- `write_sorting::number` meets its contract.
use Rattle.write_sorting.proofs.NumberedWords.{number-none, number_step, number-done}
use Rattle.write_sorting.proofs.number.Goals as goal

pub loop-i-init : goal.loop-i-init
loop-i-init c = number-none c.args.from c.args.to c.args.w.now c.requires.0

pub loop-i-preserved : goal.loop-i-preserved
loop-i-preserved c =
    let at = c in
    let to = at in
    number_step to.args.from to.args.to to.args.w.now at.loop-i.w at.loop-i.i to.requires.1 at.loop-i.invariant c.loop-i-test.true

pub returns : goal.returns
returns c =
    let at = c in
    let to = at in
    let d = number-done to.args.from to.args.to to.args.w.now at.loop-i.w at.loop-i.i to.requires.1 at.loop-i.invariant c.loop-i-test.false in
    (d.low, d.written, d.behind)
