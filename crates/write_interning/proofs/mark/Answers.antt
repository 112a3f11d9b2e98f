-- `write_interning::mark` meets its contract.
use Prim.Native.Nat.{ℕ, ◌+◌, ◌<◌}
use mathlib.Core.Path.{◌≡◌, ap, ◌∙◌}
use mathlib.Core.List.{List}
use native.Mathlib.Omega.{arith}
use lib.ListN.{take, get_or}
use Rattle.texts.specs.Text.{by_key}
use Rattle.write_text_keys.specs.Keys.{key_of, key_in}
use Rattle.laws.proofs.Lists.{drop_more}
use Rattle.write_interning.specs.Uses.{head_of}
use Rattle.write_interning.proofs.Numbers.{Order, order-isort}
use Rattle.write_interning.proofs.FirstUses.{mark-none, mark_at, mark-step, mark-done}
use Rattle.write_interning.proofs.mark.Goals.{In-loop-i}
use Rattle.write_interning.proofs.mark.Goals as goal

order : (c : In-loop-i) → Order (key_in c.args.source.version c.args.nodes.now c.args.strings.now c.args.layout c.args.w.now) c.args.n (take c.args.n c.args.w.now)
order c = rw c.requires.w_value (order-isort (key_in c.args.source.version c.args.nodes.now c.args.strings.now c.args.layout c.args.w.now) c.args.n)

-- where the first use goes
there : (c : In-loop-i) (x : ℕ) → x ≡ get_or c.loop-i.w c.loop-i.i 0 → c.args.n + x < c.args.n + c.args.n
there c x e =
    rw e (mark_at (key_in c.args.source.version c.args.nodes.now c.args.strings.now c.args.layout c.args.w.now) c.args.n c.args.w.now (omega arith) (order c) c.loop-i.w c.loop-i.i c.loop-i.invariant c.loop-i-test.true)

pub loop-i-init : goal.loop-i-init
loop-i-init c = mark-none (key_in c.args.source.version c.args.nodes.now c.args.strings.now c.args.layout c.args.w.now) c.args.n c.args.w.now

pub offset_bounds-w-at : goal.offset_bounds-w-at
offset_bounds-w-at c = omega (arith, there (goal.at.offset_bounds-w-at c).In-loop-i c.word.result c.word.ensures)

pub bounds-w-at : goal.bounds-w-at
bounds-w-at c = omega (arith, there (goal.at.bounds-w-at c).In-loop-i c.word.result c.word.ensures)

pub loop-i-preserved : goal.loop-i-preserved
loop-i-preserved c =
    let to = c.args in
    let l = to.layout in
    let key = key_in to.source.version to.nodes.now to.strings.now l to.w.now in
    let behind = drop_more (to.n + to.n) l.at c.loop-i.w to.w.now (omega arith) c.loop-i.invariant.behind in
    let e = c.head_of-first.ensures
    ∙ ap (λ (d : List ℕ). head_of (by_key (key_of to.source.version to.nodes.now to.strings.now l.texts l.paths l.lengths d)) c.loop-i.w to.n c.loop-i.i) behind in
    rw c.word.ensures
    (mark-step key to.n to.w.now (omega arith) (order (goal.at.loop-i-preserved c).In-loop-i) c.loop-i.w c.loop-i.i c.head_of-first.result c.loop-i.invariant c.loop-i-test.true e)

pub returns : goal.returns
returns c =
    let to = c.args in
    let key = key_in to.source.version to.nodes.now to.strings.now to.layout to.w.now in
    record {
      fact = mark-done key to.n to.w.now (omega arith) (rw c.requires.w_value (order-isort key to.n)) c.loop-i.w c.loop-i.i c.loop-i.invariant c.loop-i-test.false;
      w_unchanged = drop_more (to.n + to.n) to.layout.at c.loop-i.w to.w.now (omega arith) c.loop-i.invariant.behind;
    }
