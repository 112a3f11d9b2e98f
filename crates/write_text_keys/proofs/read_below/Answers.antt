-- `write_text_keys::read_below` meets its contract. The invariant: what is left before x and y is ordered as the whole, with `less` for what is behind.
use native.Mathlib.Omega.{arith}
use Prim.Native.Nat.{◌-◌}
use mathlib.Core.Path.{◌≡◌, refl, sym, ◌∙◌}
use Rattle.write_text_keys.proofs.Uses.{none-decided, rest-decided, byte-decided}
use Rattle.write_text_keys.proofs.NameRuns.{InName, in_name, run_decided}
use Rattle.write_text_keys.proofs.read_below.Goals as goal

pub loop-left-init : goal.loop-left-init
loop-left-init c = refl

pub returns-then-rest_alike : goal.returns-then-rest_alike
returns-then-rest_alike c =
    let at = c in
    let to = at.args in
    sym (at.loop-left.invariant ∙ rest-decided to.source.version to.nodes.now to.strings.now at.loop-left.left at.loop-left.x at.loop-left.y at.loop-left.less (sym c.rest_alike.ensures ∙ c.if-rest_alike.true))

pub loop-left-preserved-then-run-eq0 : goal.loop-left-preserved-then-run-eq0
loop-left-preserved-then-run-eq0 c =
    let at = c in
    let to = at.args in
    let left = at.loop-left.left - 1 in
    at.loop-left.invariant
    ∙ byte-decided to.source.version to.nodes.now to.strings.now left at.loop-left.left at.loop-left.x at.loop-left.y at.loop-left.less (omega (arith, c.loop-left-test.true))
    ∙ rw (c.step_back-x.ensures, c.step_back-y.ensures, c.decide-less.ensures, c.last_byte.ensures, c.last_byte-then-run-eq0.ensures)

pub back_within-x-requires : goal.back_within-x-requires
back_within-x-requires c =
    let first : InName c.args.strings.now c.loop-left.x c.run_length-run.result = in_name _ _ _ (omega arith) c.run_length-run.ensures.1 in
    first.left

pub back_within-y-requires : goal.back_within-y-requires
back_within-y-requires c =
    let second : InName c.args.strings.now c.loop-left.y c.run_length-run.result = in_name _ _ _ (omega arith) c.run_length-run.ensures.2 in
    second.left

pub loop-left-preserved : goal.loop-left-preserved
loop-left-preserved c =
    let run = c.run_length-run.result in
    let at = c in
    let to = at.args in
    let v = to.source.version in
    let nodes = to.nodes.now in
    at.loop-left.invariant
    ∙ run_decided v nodes to.strings.now run (at.loop-left.left - run) at.loop-left.left at.loop-left.x at.loop-left.y at.loop-left.less (omega arith)
    ∙ rw (c.back_within-x.ensures v nodes, c.back_within-y.ensures v nodes, c.run_below-less.ensures v nodes)

pub returns : goal.returns
returns c =
    let at = c in
    let to = at.args in
    let z : at.loop-left.left ≡ 0 = omega arith in
    sym (at.loop-left.invariant ∙ none-decided to.source.version to.nodes.now to.strings.now at.loop-left.left at.loop-left.x at.loop-left.y at.loop-left.less z)
