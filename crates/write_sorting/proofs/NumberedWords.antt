-- Words that are numbered: the numbers from k on, and the loop that writes them.
use Prim.Native.Nat.{ℕ, zero, suc, ◌+◌, ◌-◌, ◌≤◌, ◌<◌}
use mathlib.Core.Path.{◌≡◌, refl, sym, ap, ◌∙◌}
use mathlib.Core.List.{List, [], ◌∷◌, ◌++◌, append-nil, append_assoc}
use native.Mathlib.Nat.{add-zero}
use native.Mathlib.Omega.{arith}
use native.Mathlib.Numerals.{add-one}
use lib.ListN.{length, get_or, take, drop, set, length-set}
use lib.Seq.{take-suc-set, take-take, take_at, drop_at, drop-set-lt, length-take-le}
use Rattle.write_sorting.specs.Sorted.{up_from, part}
use Rattle.write_sorting.proofs.MergeInPlace.{part-take}

-- ---- the numbers from k on

pub up_from-length : (k n : ℕ) → length (up_from k n) ≡ n
unfolding up_from
up_from-length k zero = refl
up_from-length k (suc n) = ap suc (up_from-length (suc k) n)

pub up_from-at : (k n i : ℕ) → i < n → get_or (up_from k n) i 0 ≡ k + i
unfolding up_from
up_from-at k zero i h = absurd (omega arith)
up_from-at k (suc n) zero h = sym (add-zero k)
up_from-at k (suc n) (suc i) h = up_from-at (suc k) n i (omega arith) ∙ omega arith

pub up_from-append : (k a b : ℕ) → up_from k (a + b) ≡ up_from k a ++ up_from (k + a) b
unfolding up_from
up_from-append k zero b = let e : 0 + b ≡ b = omega arith in rw (e, add-zero k)
up_from-append k (suc a) b =
    let e : suc a + b ≡ suc (a + b) = omega arith in
    let f : k + suc a ≡ suc k + a = omega arith in
    rw (e, f) (ap (λ (l : List ℕ). k ∷ l) (up_from-append (suc k) a b))

-- ---- writing the numbers from `from` up to `to`: i is the next, w the list where the pass began

pub record Numbering (from to : ℕ) (w x : List ℕ) (i : ℕ) : Type 0 where
  pub begun : from ≤ i
  pub bound : i ≤ to
  pub room : length x ≡ length w
  pub low : take i x ≡ take from w ++ up_from from (i - from)
  pub behind : drop to x ≡ drop to w

pub number-none : (from to : ℕ) (w : List ℕ) → from ≤ to → Numbering from to w w from
unfolding up_from
number-none from to w h =
    let e : from - from ≡ 0 = omega arith in
    record { begun = omega arith; bound = h; room = refl; low = rw e (sym (append-nil (take from w))); behind = refl }

pub number_step : (from to : ℕ) (w x : List ℕ) (i : ℕ) → to ≤ length w → Numbering from to w x i → i < to → Numbering from to w (set x i i) (i + 1)
unfolding up_from
number_step from to w x i hw N h =
    let e : i + 1 - from ≡ (i - from) + 1 = omega arith in
    let f : from + (i - from) ≡ i = omega arith in
    record {
      begun = omega arith;
      bound = omega arith;
      room = length-set x i i ∙ N.room;
      low = ap (λ (k : ℕ). take k (set x i i)) (add-one i)
          ∙ take-suc-set x i i (omega arith)
          ∙ ap (λ (l : List ℕ). l ++ (i ∷ [])) N.low
          ∙ append_assoc (take from w) (up_from from (i - from)) (i ∷ [])
          ∙ ap (λ (l : List ℕ). take from w ++ l) (ap (λ (k : ℕ). up_from from (i - from) ++ (k ∷ [])) (sym f) ∙ sym (up_from-append from (i - from) 1))
          ∙ ap (λ (k : ℕ). take from w ++ up_from from k) (sym e);
      behind = drop-set-lt to x i i h ∙ N.behind;
    }

pub record Numbered (from to : ℕ) (w x : List ℕ) : Type 0 where
  pub low : take from x ≡ take from w
  pub written : part from to x ≡ up_from from (to - from)
  pub behind : drop to x ≡ drop to w

pub number-done : (from to : ℕ) (w x : List ℕ) (i : ℕ) → to ≤ length w → Numbering from to w x i → to ≤ i → Numbered from to w x
number-done from to w x i hw N h =
    let e : i ≡ to = omega arith in
    let l : length (take from w) ≡ from = length-take-le from w (omega arith) in
    let t : take to x ≡ take from w ++ up_from from (to - from) = ap (λ (k : ℕ). take k x) (sym e) ∙ N.low ∙ ap (λ (k : ℕ). take from w ++ up_from from (k - from)) e in
    record {
      low = sym (take-take from to x (omega arith)) ∙ ap (take from) t ∙ take_at (take from w) (up_from from (to - from)) from l;
      written = sym (part-take from to x (omega arith) (omega arith)) ∙ ap (drop from) t ∙ drop_at (take from w) (up_from from (to - from)) from l;
      behind = N.behind;
    }
