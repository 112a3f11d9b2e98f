-- `write_text_keys::path_length` meets its contract.
use native.Mathlib.Omega.{arith}
use mathlib.Core.Path.{◌≡◌, sym, ap, ◌∙◌}
use Prim.Native.Nat.{◌+◌, ◌^◌, ◌<◌}
use Rattle.draft.specs.Source.{word_of}
use Rattle.write_text_keys.specs.Keys.{long_of}
use Rattle.write_text_keys.proofs.Lengths.{below_root, below_top, below_dot}
use Rattle.write_text_keys.proofs.path_length.Goals as goal

pub returns-then-x-eq0 : goal.returns-then-x-eq0
returns-then-x-eq0 c =
    record {
      answer = sym (below_root _ _ _ _ c.if-x-eq0.true);
      bound = omega arith;
    }

pub returns-then-above-eq0 : goal.returns-then-above-eq0
returns-then-above-eq0 c =
    let piece = c.piece_length-piece in
    record {
      answer = piece.ensures ∙ sym (below_top _ _ _ _ c.if-x-eq0.false (sym c.word_of-above.ensures ∙ c.if-above-eq0.true));
      bound = omega arith;
    }

pub overflow_add-result : goal.overflow_add-result
overflow_add-result c =
    let above : let to = c.args in
    c.long_of.result ≡ long_of to.lengths to.tab.now (word_of to.source.version to.nodes.now to.x 0) =
    let to = c.args in
    c.long_of.ensures ∙ ap (long_of to.lengths to.tab.now) c.word_of-above.ensures in
    let room : c.long_of.result + 2 ^ 32 < 2 ^ 64 = rw above (c.requires.x_bound c.if-x-eq0.false) in
    omega (arith, room)

pub overflow_add-result-2 : goal.overflow_add-result-2
overflow_add-result-2 c =
    let above : let to = c.args in
    c.long_of.result ≡ long_of to.lengths to.tab.now (word_of to.source.version to.nodes.now to.x 0) =
    let to = c.args in
    c.long_of.ensures ∙ ap (long_of to.lengths to.tab.now) c.word_of-above.ensures in
    let room : c.long_of.result + 2 ^ 32 < 2 ^ 64 = rw above (c.requires.x_bound c.if-x-eq0.false) in
    omega (arith, room)

pub returns : goal.returns
returns c =
    let above : let to = c.args in
    c.long_of.result ≡ long_of to.lengths to.tab.now (word_of to.source.version to.nodes.now to.x 0) =
    let to = c.args in
    c.long_of.ensures ∙ ap (long_of to.lengths to.tab.now) c.word_of-above.ensures in
    let to = c.args in
    let dot = below_dot to.source.version to.nodes.now c.long_of.result to.x c.if-x-eq0.false (λ z. c.if-above-eq0.false (c.word_of-above.ensures ∙ z)) in
    record {
      answer = rw (← above) (omega (arith, dot, c.piece_length-piece.ensures));
      bound = rw (← above) (omega arith);
    }
