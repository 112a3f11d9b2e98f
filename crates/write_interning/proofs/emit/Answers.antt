-- `write_interning::emit` meets its contract.
use Prim.Native.Nat.{ℕ, ◌+◌, ◌≤◌}
use mathlib.Core.Path.{◌≡◌, sym, ◌∙◌}
use mathlib.Core.List.{List}
use native.Mathlib.Omega.{arith}
use lib.ListN.{length}
use Rattle.write_text_keys.specs.Keys.{key_in}
use Rattle.draft_image.specs.Strings.{offset_of}
use Rattle.write_interning.specs.Uses.{stored_of}
use Rattle.write_interning.proofs.OutputLoop.{emit_none, emit_fits, fits-lent, emit_skip, emit_text, emit_done}
use Rattle.write_interning.proofs.emit.Goals.{After-key_length-len}
use Rattle.write_interning.proofs.emit.Goals as goal

-- a text that is written: where it belongs, its length, and that it fits
record Due (key : ℕ → List ℕ) (n : ℕ) (o x : List ℕ) (k end len : ℕ) : Type 0 where
  here : offset_of (stored_of key n) (key k) ≡ end
  size : len ≡ length (key k)
  fits : end + length (key k) ≤ length x

due : (c : After-key_length-len) → Due (key_in c.args.source.version c.args.nodes.now c.args.strings.now c.args.layout c.args.w.now) c.args.n c.args.out.now c.loop-k.out c.loop-k.k c.loop-k.end c.key_length-len.result
due c =
    let key = key_in c.args.source.version c.args.nodes.now c.args.strings.now c.args.layout c.args.w.now in
    let e = sym (c.requires.offsets c.loop-k.k c.loop-k-test.true) ∙ sym c.word.ensures ∙ c.if-word-end.true in
    record {
      here = e;
      size = c.key_length-len.ensures c.args.source.version c.args.nodes.now;
      fits = omega (arith, emit_fits key c.args.n c.args.out.now c.requires.n_in_bounds c.loop-k.out c.loop-k.k c.loop-k.end c.loop-k.invariant c.loop-k-test.true e);
    }

pub loop-k-init : goal.loop-k-init
loop-k-init c =
    emit_none (key_in c.args.source.version c.args.nodes.now c.args.strings.now c.args.layout c.args.w.now) c.args.n c.args.out.now

pub slice_bounds-put_key-count : goal.slice_bounds-put_key-count
slice_bounds-put_key-count c =
    let d = due (goal.at.slice_bounds-put_key-count c).After-key_length-len in omega arith

pub slice_bounds-put_key-start : goal.slice_bounds-put_key-start
slice_bounds-put_key-start c =
    let d = due (goal.at.slice_bounds-put_key-start c).After-key_length-len in omega arith

pub put_key-requires : goal.put_key-requires
put_key-requires c =
    let d = due (goal.at.put_key-requires c).After-key_length-len in
    record {
      placed = c.requires.n_bound.1;
      a_in_bounds = fits-lent c.loop-k.out c.loop-k.end (length (key_in c.args.source.version c.args.nodes.now c.args.strings.now c.args.layout c.args.w.now c.loop-k.k)) d.fits;
    }

pub overflow_add-end : goal.overflow_add-end
overflow_add-end c =
    let d = due (goal.at.overflow_add-end c).After-key_length-len in omega arith

pub loop-k-preserved : goal.loop-k-preserved
loop-k-preserved c =
    let key = key_in c.args.source.version c.args.nodes.now c.args.strings.now c.args.layout c.args.w.now in
    elim c.if-word-end.branch [
      | goal.then-word-end w ↦
          let e = sym (c.requires.offsets c.loop-k.k c.loop-k-test.true) ∙ sym c.word.ensures ∙ w.if-word-end.true in
          let size : w.key_length-len.result ≡ length (key c.loop-k.k) = w.key_length-len.ensures c.args.source.version c.args.nodes.now in
          rw (w.out-is, w.end-is, size)
          (emit_text key c.args.n c.args.out.now c.requires.n_in_bounds c.loop-k.out c.loop-k.k c.loop-k.end w.put_key.new.out c.loop-k.invariant c.loop-k-test.true e w.put_key.ensures)
      | goal.else-word-end w ↦ rw (w.out-is, w.end-is)
          (emit_skip key c.args.n c.args.out.now c.requires.n_in_bounds c.loop-k.out c.loop-k.k c.loop-k.end c.loop-k.invariant c.loop-k-test.true
          (λ e. w.if-word-end.false (c.word.ensures ∙ c.requires.offsets c.loop-k.k c.loop-k-test.true ∙ e)))
    ]

pub shape_of-out : goal.shape_of-out
shape_of-out c = c.loop-k.invariant.room

pub returns : goal.returns
returns c =
    let key = key_in c.args.source.version c.args.nodes.now c.args.strings.now c.args.layout c.args.w.now in
    emit_done key c.args.n c.args.out.now c.requires.n_in_bounds c.loop-k.out c.loop-k.k c.loop-k.end c.loop-k.invariant c.loop-k-test.false
