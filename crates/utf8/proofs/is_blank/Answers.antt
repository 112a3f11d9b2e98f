-- `utf8::is_blank` meets its contract. The invariant: whole White_Space characters have passed.
use mathlib.Core.Path.{◌≡◌, refl}
use native.Mathlib.Omega.{arith}
use borrow.Author.Rules.{rules}
use lib.ListN.{drop}
use Rattle.utf8.specs.White.{whites, front_of, blank}
use Rattle.utf8.proofs.Runs.{passes_none, passes-next, piece_end, advances_not, run_all, run_not}
use Rattle.utf8.proofs.WhiteSpace.{white_at, front_le}
use Rattle.utf8.proofs.is_blank.Goals as goal

pub loop-i-init : goal.loop-i-init
loop-i-init c = passes_none 0 (search rules)

pub returns-then-k-eq0 : goal.returns-then-k-eq0
unfolding blank
returns-then-k-eq0 c =
    let s = c.args.s.now in
    let l = c.loop-i in
    let k = c.white-k.result in
    let q : k ≡ front_of whites (drop l.i s) = white_at s l.i k (rw (← c.byte.ensures, ← c.byte-in-loop-i.ensures) c.white-k.ensures) in
    run_not l.invariant (advances_not k (passes_none l.i (omega arith)) (omega arith) q c.if-k-eq0.true) refl

pub overflow_add-i-in-loop-i-2 : goal.overflow_add-i-in-loop-i-2
overflow_add-i-in-loop-i-2 c =
    let s = c.args.s.now in
    let l = c.loop-i in
    let k = c.white-k.result in
    let q : k ≡ front_of whites (drop l.i s) = white_at s l.i k (rw (← c.byte.ensures, ← c.byte-in-loop-i.ensures) c.white-k.ensures) in
    let e = piece_end (front_of whites) (front_le whites) s l.i k (omega arith) q in
    omega arith

pub loop-i-smaller : goal.loop-i-smaller
loop-i-smaller c =
    let s = c.args.s.now in
    let l = c.loop-i in
    let k = c.white-k.result in
    let q : k ≡ front_of whites (drop l.i s) = white_at s l.i k (rw (← c.byte.ensures, ← c.byte-in-loop-i.ensures) c.white-k.ensures) in
    let e = piece_end (front_of whites) (front_le whites) s l.i k (omega arith) q in
    omega arith

pub loop-i-preserved : goal.loop-i-preserved
loop-i-preserved c =
    let s = c.args.s.now in
    let l = c.loop-i in
    let k = c.white-k.result in
    let q : k ≡ front_of whites (drop l.i s) = white_at s l.i k (rw (← c.byte.ensures, ← c.byte-in-loop-i.ensures) c.white-k.ensures) in
    let e = piece_end (front_of whites) (front_le whites) s l.i k (omega arith) q in
    passes-next k l.invariant (omega arith) q c.if-k-eq0.false e

pub returns : goal.returns
unfolding blank
returns c = run_all c.loop-i.invariant c.loop-i-test.false
