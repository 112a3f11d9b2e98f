-- The pass over the sorted order that finds each use's first use.
use Prim.Native.Nat.{ℕ, ◌+◌, ◌-◌, ◌≤◌, ◌<◌}
use mathlib.Core.Path.{◌≡◌, refl, sym, ap, ◌∙◌}
use mathlib.Core.Logic.{inl, inr, ⊎_elim}
use mathlib.Core.List.{List}
use mathlib.Core.Bool.{true}
use native.Mathlib.Omega.{arith}
use borrow.Author.Tests.{eqb-true, eqb-false, ltb-true, ltb-false}
use lib.Dec.{eqb, ltb}
use lib.ListN.{length, take, drop, set, get_or, length-set}
use lib.Seq.{get_or-take, get_or-set_same, get_or-set_other, take-set-le, drop-set-lt}
use Rattle.texts.specs.Text.{before, by_key}
use Rattle.texts.proofs.Text.{before-trans, before-unlike}
use Rattle.write_sorting.proofs.Laws.{cases, differ}
use Rattle.write_interning.specs.Uses.{First, Firsts, head_of}
use Rattle.write_interning.proofs.Numbers.{Before, Order}

-- one text comes before no other that it is
never : {P : Type 0} (a b : List ℕ) → before a b ≡ true → a ≡ b → P
never a b e q = absurd (before-unlike a b e q)

before_lt : (key : ℕ → List ℕ) (a b c : ℕ) → Before key a b → by_key key b c ≡ true → before (key a) (key c) ≡ true
before_lt key a b c (inl p) q = before-trans (key a) (key b) (key c) p q
before_lt key a b c (inr p) q = rw (← p.0) at q

-- the first use of a text, at a later use of it
carry : (key : ℕ → List ℕ) (b k r : ℕ) → First key b r → key b ≡ key k → b < k → First key k r
carry key b k r F e h = record { early = omega arith; alike = F.alike ∙ e; least = λ j l q. F.least j l (q ∙ sym e) }

-- the first uses of the first i uses of the order stand in x; w is the list where the pass began
pub record Marking (key : ℕ → List ℕ) (n : ℕ) (w x : List ℕ) (i : ℕ) : Type 0 where
  pub bound : i ≤ n
  pub room : length x ≡ length w
  pub low : take n x ≡ take n w
  pub behind : drop (n + n) x ≡ drop (n + n) w
  pub done : (p : ℕ) → p < i → First key (get_or w p 0) (get_or x (n + get_or w p 0) 0)

pub mark-none : (key : ℕ → List ℕ) (n : ℕ) (w : List ℕ) → Marking key n w w 0
mark-none key n w = record { bound = omega arith; room = refl; low = refl; behind = refl; done = λ p h. absurd (omega arith) }

module _ (key : ℕ → List ℕ) (n : ℕ) (w : List ℕ) (hn : n + n ≤ length w) (O : Order key n (take n w)) where
  at_w : (p : ℕ) → p < n → get_or (take n w) p 0 ≡ get_or w p 0
  at_w p h = get_or-take n w p 0 h

  at_x : (x : List ℕ) (i : ℕ) → Marking key n w x i → (p : ℕ) → p < n → get_or x p 0 ≡ get_or w p 0
  at_x x i M p h = sym (get_or-take n x p 0 h) ∙ ap (λ (l : List ℕ). get_or l p 0) M.low ∙ at_w p h

  in_range : (p : ℕ) → p < n → get_or w p 0 < n
  in_range p h = rw (at_w p h) at (O.below p h)

  -- where the first use of the next one is written
  pub mark_at : (x : List ℕ) (i : ℕ) → Marking key n w x i → i < n → n + get_or x i 0 < n + n
  mark_at x i M h = omega (arith, at_x x i M i h, in_range i h)

  up : (p q : ℕ) → p < q → q < n → Before key (get_or w p 0) (get_or w q 0)
  up p q h k = let pn : p < n = omega arith in rw (at_w p pn, at_w q k) at (O.up p q h k)

  found : (k : ℕ) → k < n → (p : ℕ) × (p < n) × (get_or w p 0 ≡ k)
  found k h = let f = O.each k h in (f.0, f.1, sym (at_w f.0 f.1) ∙ f.2)

  apart : (p q : ℕ) → p < q → q < n → get_or w p 0 ≡ get_or w q 0 → ⊥
  apart p q h k e = ⊎_elim (λ l. never (key (get_or w p 0)) (key (get_or w q 0)) l (ap key e)) (λ s. omega (arith, s.1)) (up p q h k)

  -- a use whose text is new in the order is its own first use
  new_first : (i : ℕ) → i < n → ((p : ℕ) → p < i → before (key (get_or w p 0)) (key (get_or w i 0)) ≡ true) → First key (get_or w i 0) (get_or w i 0)
  new_first i h b = record {
    early = omega arith;
    alike = refl;
    least = λ j l e.
        let f = found j (omega (arith, in_range i h)) in
        cases (ltb f.0 i)
        (λ t. never (key (get_or w f.0 0)) (key (get_or w i 0)) (b f.0 (ltb-true f.0 i t)) (ap key f.2 ∙ e))
        (λ t. cases (ltb i f.0)
        (λ u. ⊎_elim
        (λ v. never (key (get_or w i 0)) (key (get_or w f.0 0)) v (sym (ap key f.2 ∙ e)))
        (λ v. omega (arith, v.1, f.2))
        (up i f.0 (ltb-true i f.0 u) f.1))
        (λ u. let q : f.0 ≡ i = omega (arith, ltb-false f.0 i t, ltb-false i f.0 u) in omega (arith, sym f.2 ∙ ap (λ (p : ℕ). get_or w p 0) q)));
  }

  head_first : (x : List ℕ) (i : ℕ) → Marking key n w x i → i < n → First key (get_or w i 0) (head_of (by_key key) x n i)
  unfolding head_of
  head_first x i M h =
      let xi : get_or x i 0 ≡ get_or w i 0 = at_x x i M i h in
      cases (eqb i 0)
      (λ e. rw (e, xi) (new_first i h (λ p l. absurd (omega (arith, eqb-true i 0 e)))))
      (λ e.
      let i0 : i ≡ 0 → ⊥ = eqb-false i 0 e in
      let bn : i - 1 < n = omega arith in
      let bi : i - 1 < i = omega arith in
      let xb : get_or x (i - 1) 0 ≡ get_or w (i - 1) 0 = at_x x i M (i - 1) bn in
      cases (by_key key (get_or w (i - 1) 0) (get_or w i 0))
      (λ f. rw (e, xi, xb, f) (new_first i h (λ p l. cases (ltb p (i - 1))
      (λ t. before_lt key (get_or w p 0) (get_or w (i - 1) 0) (get_or w i 0) (up p (i - 1) (ltb-true p (i - 1) t) bn) f)
      (λ t. let q : p ≡ i - 1 = omega (arith, ltb-false p (i - 1) t) in rw q f))))
      (λ f. rw (e, xi, xb, f) (⊎_elim
      (λ v. differ (sym v ∙ f))
      (λ v. carry key (get_or w (i - 1) 0) (get_or w i 0) (get_or x (n + get_or w (i - 1) 0) 0) (M.done (i - 1) bi) v.0 v.1)
      (up (i - 1) i bi h))))

  pub mark-step : (x : List ℕ) (i v : ℕ) → Marking key n w x i → i < n → v ≡ head_of (by_key key) x n i → Marking key n w (set x (n + get_or x i 0) v) (i + 1)
  mark-step x i v M h e =
      let xi : get_or x i 0 ≡ get_or w i 0 = at_x x i M i h in
      let r : get_or w i 0 < n = in_range i h in
      record {
        bound = omega arith;
        room = length-set x (n + get_or x i 0) v ∙ M.room;
        low = take-set-le n x (n + get_or x i 0) v (omega arith) ∙ M.low;
        behind = drop-set-lt (n + n) x (n + get_or x i 0) v (omega arith) ∙ M.behind;
        done = λ p l. cases (ltb p i)
            (λ t. let pi : p < i = ltb-true p i t in
            let ne : (n + get_or w p 0 ≡ n + get_or w i 0) → ⊥ = λ q. apart p i pi h (omega arith) in
            rw (xi, get_or-set_other x (n + get_or w i 0) (n + get_or w p 0) v 0 ne) (M.done p pi))
            (λ t. let q : p ≡ i = omega (arith, ltb-false p i t) in
            rw (q, xi, get_or-set_same x (n + get_or w i 0) v 0 (omega arith), e) (head_first x i M h));
      }

  pub mark-done : (x : List ℕ) (i : ℕ) → Marking key n w x i → n ≤ i → Firsts key n x
  mark-done x i M h k l = let f = found k l in rw f.2 at (M.done f.0 (omega (arith, f.1)))
