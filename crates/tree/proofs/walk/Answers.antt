-- `tree::walk` meets its contract.
use mathlib.Core.Path.{refl, sym, ap, ◌∙◌}
use Prim.Native.Nat.{ℕ, ◌+◌, ◌-◌, ◌<◌}
use native.Mathlib.Omega.{arith}
use lib.ListN.{get_or, length-set}
use Rattle.image.specs.Refusals.{value_in}
use Rattle.image.proofs.Refused.{refused-alike, some-refused, none-refused}
use Rattle.tree.proofs.LoadWalk.{load-start, load_end, load_below, load-skip, load-room, load-less, load-entered, load-refused}
use Rattle.tree.proofs.walk.Goals as goal

pub loop-depth-init : goal.loop-depth-init
loop-depth-init c = load-start _ _ c.requires.count_value c.requires.fit.counts c.args.work.now c.requires.strings_in_bounds c.requires.by_index

pub overflow_cast-id : goal.overflow_cast-id
overflow_cast-id c = omega (arith, c.slice_known-in-loop-depth-1.given (c.args.count + (c.loop-depth.depth - 1)))

pub offset_bounds-work-id : goal.offset_bounds-work-id
offset_bounds-work-id c =
    let top : ℕ = get_or c.loop-depth.work (c.args.count + (c.loop-depth.depth - 1)) 0 in
    let top_below : top < c.args.count = load_below _ _ c.requires.count_value c.requires.fit.counts c.args.work.now _ _ c.loop-depth.invariant _
    c.loop-depth-test.true refl in
    omega (arith, top_below)

pub bounds-work-id : goal.bounds-work-id
bounds-work-id c =
    let top : ℕ = get_or c.loop-depth.work (c.args.count + (c.loop-depth.depth - 1)) 0 in
    let top_below : top < c.args.count = load_below _ _ c.requires.count_value c.requires.fit.counts c.args.work.now _ _ c.loop-depth.invariant _
    c.loop-depth-test.true refl in
    omega (arith, top_below)

pub offset_bounds-work-id-then-work-id-eq0 : goal.offset_bounds-work-id-then-work-id-eq0
offset_bounds-work-id-then-work-id-eq0 c =
    let top : ℕ = get_or c.loop-depth.work (c.args.count + (c.loop-depth.depth - 1)) 0 in
    let top_below : top < c.args.count = load_below _ _ c.requires.count_value c.requires.fit.counts c.args.work.now _ _ c.loop-depth.invariant _
    c.loop-depth-test.true refl in
    omega (arith, top_below)

pub bounds-work-id-then-work-id-eq0 : goal.bounds-work-id-then-work-id-eq0
bounds-work-id-then-work-id-eq0 c =
    let top : ℕ = get_or c.loop-depth.work (c.args.count + (c.loop-depth.depth - 1)) 0 in
    let top_below : top < c.args.count = load_below _ _ c.requires.count_value c.requires.fit.counts c.args.work.now _ _ c.loop-depth.invariant _
    c.loop-depth-test.true refl in
    omega (arith, top_below)

pub enter-requires : goal.enter-requires
enter-requires c =
    let top : ℕ = get_or c.loop-depth.work (c.args.count + (c.loop-depth.depth - 1)) 0 in
    let top_below : top < c.args.count = load_below _ _ c.requires.count_value c.requires.fit.counts c.args.work.now _ _ c.loop-depth.invariant _
    c.loop-depth-test.true refl in
    record {
      fit = c.requires.fit;
      id_bound = omega (arith, top_below, c.requires.count_value);
      id_in_bounds = load-room _ _ c.requires.count_value c.requires.fit.counts c.args.work.now _ _ c.loop-depth.invariant _ c.loop-depth-test.true refl c.if-work-id-eq0.true;
    }

pub returns-in_err-depth : goal.returns-in_err-depth
returns-in_err-depth c =
    let head = c in
    let start = c in
    rw (refused-alike _ _ _ c.in_err-depth.was c.from_residual.ensures.1)
    (load-refused _ _ start.requires.count_value start.requires.fit.counts start.args.work.now _ _ head.loop-depth.invariant _ c.loop-depth-test.true refl c.if-work-id-eq0.true _ _ _
    c.enter.ensures c.enter.auto.work (some-refused _ _ c.in_err-depth.was))

pub loop-depth-smaller-then-work-id-eq0 : goal.loop-depth-smaller-then-work-id-eq0
loop-depth-smaller-then-work-id-eq0 c =
    let head = c in
    let start = c in
    rw (sym (ap value_in c.in_ok-depth.was))
    (load-less _ _ start.requires.count_value start.requires.fit.counts start.args.work.now _ _ head.loop-depth.invariant _ c.loop-depth-test.true refl c.if-work-id-eq0.true _ _ _
    c.enter.ensures c.enter.auto.work (none-refused _ _ c.in_ok-depth.was))

pub loop-depth-preserved-then-work-id-eq0 : goal.loop-depth-preserved-then-work-id-eq0
loop-depth-preserved-then-work-id-eq0 c =
    let head = c in
    let start = c in
    rw (sym (ap value_in c.in_ok-depth.was))
    (load-entered _ _ start.requires.count_value start.requires.fit.counts start.args.work.now _ _ head.loop-depth.invariant _ c.loop-depth-test.true refl c.if-work-id-eq0.true _ _ _
    c.enter.ensures c.enter.auto.work (none-refused _ _ c.in_ok-depth.was))

pub loop-depth-preserved : goal.loop-depth-preserved
loop-depth-preserved c =
    load-skip _ _ c.requires.count_value c.requires.fit.counts c.args.work.now _ _ c.loop-depth.invariant _ c.loop-depth-test.true refl c.if-work-id-eq0.false

pub shape_of-work : goal.shape_of-work
shape_of-work c = c.loop-depth.invariant.long ∙ simp length-set

pub returns : goal.returns
returns c = load_end _ _ c.requires.count_value c.requires.fit.counts _ _ _ c.loop-depth.invariant c.loop-depth-test.false
