-- `write_interning::assign` meets its contract. The invariant: whatever the version, the uses before `k` have their offsets.
use Prim.Native.Nat.{ℕ, ◌+◌, ◌≤◌}
use mathlib.Core.Path.{◌≡◌, sym, ap, ◌∙◌}
use mathlib.Core.List.{List}
use native.Mathlib.Omega.{arith}
use lib.ListN.{get_or, drop, length}
use Rattle.write_text_keys.specs.Keys.{key_of, key_in}
use Rattle.laws.proofs.Lists.{drop_more}
use Rattle.write_interning.proofs.OffsetLoop.{assign_all, assign_none, first-early, assign_next, assign_old, assign_long, assigned_long, assigned_whole}
use Rattle.write_interning.proofs.assign.Goals.{At-loop-k}
use Rattle.write_interning.proofs.assign.Goals as goal

-- a use that is its own first: the length of its text
record Own (key : ℕ → List ℕ) (w : List ℕ) (n k len : ℕ) : Type 0 where
  self : get_or w (n + k) 0 ≡ k
  size : len ≡ length (key k)

-- the tables stay
behind : (c : At-loop-k) → drop c.args.layout.at c.loop-k.w ≡ drop c.args.layout.at c.args.w.now
behind c = drop_more (c.args.n + c.args.n) c.args.layout.at c.loop-k.w c.args.w.now (omega arith) c.loop-k.invariant.0.behind

pub loop-k-init : goal.loop-k-init
loop-k-init c =
    let a = c.args in
    assign_all (λ v. key_in v a.nodes.now a.strings.now a.layout a.w.now) a.n a.w.now a.w.now 0 0 a.source.version c.requires.firsts
    (λ v f. assign_none (key_in v a.nodes.now a.strings.now a.layout a.w.now) a.n a.w.now)

pub returns-then-total-len : goal.returns-then-total-len
returns-then-total-len c =
    let key : ℕ → ℕ → List ℕ = λ v. key_in v c.args.nodes.now c.args.strings.now c.args.layout c.args.w.now in
    let same = behind (goal.at.returns-then-total-len c).At-loop-k in
    let own : (v : ℕ)
    → Own (key v) c.loop-k.w c.args.n c.loop-k.k c.key_length-len.result = λ v.
    let l = c.args.layout in
    let e = sym c.word-first.ensures ∙ c.if-first-k.true in
    record {
      self = e;
      size = c.key_length-len.ensures v c.args.nodes.now
          ∙ ap (λ (d : List ℕ). length (key_of v c.args.nodes.now c.args.strings.now l.texts l.paths l.lengths d c.word-first.result)) same
          ∙ ap (λ (a : ℕ). length (key v a)) c.if-first-k.true;
    } in
    let o = own c.args.source.version in
    let so_far = c.loop-k.invariant.1 c.args.source.version c.requires.firsts in
    let h = assign_long (key c.args.source.version) c.args.n c.args.w.now (omega arith) c.requires.firsts c.loop-k.w c.loop-k.k c.loop-k.total so_far c.loop-k-test.true o.self (omega (arith, o.size)) in
    let a = assigned_long (key c.args.source.version) c.args.n c.loop-k.w h in
    record {
      result_value = a.0;
      offsets = a.1;
      w_unchanged = same;
    }

pub overflow_add-n-else-first-k : goal.overflow_add-n-else-first-k
overflow_add-n-else-first-k c =
    let key : ℕ → ℕ → List ℕ = λ v. key_in v c.args.nodes.now c.args.strings.now c.args.layout c.args.w.now in
    let early : c.word-first.result ≤ c.loop-k.k =
    let so_far = c.loop-k.invariant.1 c.args.source.version c.requires.firsts in
    rw c.word-first.ensures
    (first-early (key c.args.source.version) c.args.n c.args.w.now (omega arith) c.requires.firsts c.loop-k.w c.loop-k.k c.loop-k.total so_far c.loop-k-test.true) in
    omega (arith, early)

pub loop-k-preserved : goal.loop-k-preserved
loop-k-preserved c =
    let key : ℕ → ℕ → List ℕ = λ v. key_in v c.args.nodes.now c.args.strings.now c.args.layout c.args.w.now in
    let same = behind (goal.at.loop-k-preserved c).At-loop-k in
    let test = c.loop-k-test.true in
    elim c.if-first-k.branch [
      | goal.then-first-k+else-total-len w ↦
          let e = sym c.word-first.ensures ∙ w.if-first-k.true in
          let own : (v : ℕ) → Own (key v) c.loop-k.w c.args.n c.loop-k.k w.key_length-len.result = λ v.
          let l = c.args.layout in
          record {
            self = e;
            size = w.key_length-len.ensures v c.args.nodes.now
                ∙ ap (λ (d : List ℕ). length (key_of v c.args.nodes.now c.args.strings.now l.texts l.paths l.lengths d c.word-first.result)) same
                ∙ ap (λ (a : ℕ). length (key v a)) w.if-first-k.true;
          } in
          rw (w.w-is, w.total-is)
          (assign_all key c.args.n c.args.w.now _ _ _ c.args.source.version c.requires.firsts
          (λ v f.
          assign_next (key v) c.args.n c.args.w.now (omega arith) f c.loop-k.w c.loop-k.k c.loop-k.total (c.loop-k.invariant.1 v f) test w.key_length-len.result (own v).size (own v).self (omega (arith, w.if-total-len.false))))
      | goal.else-first-k w ↦ rw (w.w-is, w.total-is, w.word.ensures, c.word-first.ensures)
          (assign_all key c.args.n c.args.w.now _ _ _ c.args.source.version c.requires.firsts
          (λ v f.
          assign_old (key v) c.args.n c.args.w.now (omega arith) f c.loop-k.w c.loop-k.k c.loop-k.total (c.loop-k.invariant.1 v f) test (λ z. w.if-first-k.false (c.word-first.ensures ∙ z))))
    ]

pub returns : goal.returns
returns c =
    let key : ℕ → ℕ → List ℕ = λ v. key_in v c.args.nodes.now c.args.strings.now c.args.layout c.args.w.now in
    let same = behind (goal.at.returns c).At-loop-k in
    let so_far = c.loop-k.invariant.1 c.args.source.version c.requires.firsts in
    let a = assigned_whole (key c.args.source.version) c.args.n c.args.w.now c.loop-k.w c.loop-k.k c.loop-k.total so_far c.loop-k-test.false in
    record {
      result_value = a.0;
      offsets = a.1;
      w_unchanged = same;
    }
