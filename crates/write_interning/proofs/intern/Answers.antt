use Prim.Native.Nat.{ℕ, ◌^◌, ◌<◌}
use mathlib.Core.Path.{sym, ap, ◌∙◌, subst}
use mathlib.Core.List.{List}
use native.Mathlib.Omega.{arith}
use lib.ListN.{length}
use Rattle.laws.specs.Sorted.{isort}
use Rattle.texts.specs.Text.{by_key}
use Rattle.write_text_keys.specs.Keys.{key_of}
use Rattle.write_sorting.specs.Sorted.{up_from}
use Rattle.write_interning.specs.Uses.{stored_of, texts_joined, stored_answer, Offsets, Firsts}
use Rattle.write_interning.proofs.intern.Goals as goal

pub mark-requires : goal.mark-requires
mark-requires c =
    let by : List ℕ → ℕ → List ℕ = λ d.
    let to = c in
    let l = to.args.layout in
    key_of to.args.source.version to.args.nodes.now to.args.strings.now l.texts l.paths l.lengths d in
    let first = c in
    let to = first in
    record {
      n_bound = (omega arith, (omega arith, omega arith));
      w_value = first.arrange.ensures.w_after ∙ ap (λ (d : List ℕ). isort (by_key (by d)) (up_from 0 to.args.n)) (sym first.arrange.ensures.w_unchanged);
    }

pub assign-requires : goal.assign-requires
assign-requires c =
    let by : List ℕ → ℕ → List ℕ = λ d.
    let to = c in
    let l = to.args.layout in
    key_of to.args.source.version to.args.nodes.now to.args.strings.now l.texts l.paths l.lengths d in
    let first = c in
    let to = first in
    let m = c.mark in
    record {
      n_bound = (omega arith, (omega arith, omega arith), omega arith);
      firsts = subst (λ (d : List ℕ). Firsts (by d) to.args.n m.new.w) (sym m.ensures.w_unchanged) m.ensures.fact;
    }

pub returns : goal.returns
returns c =
    let by : List ℕ → ℕ → List ℕ = λ d.
    let to = c in
    let l = to.args.layout in
    key_of to.args.source.version to.args.nodes.now to.args.strings.now l.texts l.paths l.lengths d in
    let first = c in
    let to = first in
    let n = to.args.n in
    let a = c.assign in
    let behind = c.mark.ensures.w_unchanged ∙ first.arrange.ensures.w_unchanged in
    record {
      result_value = a.ensures.result_value ∙ ap (λ (d : List ℕ). stored_answer (length (texts_joined (stored_of (by d) n)))) behind;
      offsets = subst (λ (d : List ℕ). length (texts_joined (stored_of (by d) n)) < 2 ^ 32 → Offsets (by d) n a.new.w) behind a.ensures.offsets;
      w_unchanged = a.ensures.w_unchanged ∙ behind;
    }
