-- The pass in use order that turns each first use into its text's offset.
use Rattle.std.specs.Prelude.{None, Option, Some, ℕ}
use Prim.Native.Nat.{ℕ, suc, ◌+◌, ◌-◌, ◌^◌, ◌≤◌, ◌<◌}
use mathlib.Core.Path.{◌≡◌, refl, ap, ◌∙◌}
use mathlib.Core.List.{List, [], ◌∷◌}
use mathlib.Core.Bool.{true, false}
use native.Mathlib.Omega.{arith}
use native.Mathlib.Numerals.{add-one}
use borrow.Author.Tests.{ltb-true, ltb-false, lt-ltb, le-ltb}
use lib.Dec.{ltb}
use lib.ListN.{length, drop, set, get_or, length-set}
use lib.Seq.{get_or-set_same, get_or-set_other, drop-set-lt}
use Rattle.laws.specs.Counted.{join_of}
use Rattle.laws.specs.Lists.{flat_map}
use Rattle.texts.specs.Text.{holds}
use Rattle.draft_image.specs.Strings.{distinct, offset_of}
use Rattle.write_sorting.proofs.Laws.{cases}
use Rattle.write_interning.specs.Uses.{First, Firsts, Offsets, stored_of, texts_joined, stored_answer}
use Rattle.write_interning.proofs.StoredTexts.{offset_old, offset_new, stored_old, stored_new, stored-holds, first_new, first_old, length_new, length_grows}

-- the offsets of the first k uses stand in x, which are so long together; w is the list where the pass began
pub record Assigning (key : ℕ → List ℕ) (n : ℕ) (w x : List ℕ) (k total : ℕ) : Type 0 where
  pub bound : k ≤ n
  pub room : length x ≡ length w
  pub behind : drop (n + n) x ≡ drop (n + n) w
  pub fits : total < 2 ^ 32
  pub sum : total ≡ length (texts_joined (stored_of key k))
  pub done : (p : ℕ) → p < k → get_or x (n + p) 0 ≡ offset_of (stored_of key k) (key p)
  pub left : (p : ℕ) → k ≤ p → p < n → get_or x (n + p) 0 ≡ get_or w (n + p) 0

-- what of it does not go by the texts
pub record Bounded (n : ℕ) (w x : List ℕ) (k total : ℕ) : Type 0 where
  pub bound : k ≤ n
  pub room : length x ≡ length w
  pub behind : drop (n + n) x ≡ drop (n + n) w
  pub fits : total < 2 ^ 32

pub bounds_of : (key : ℕ → List ℕ) (n : ℕ) (w x : List ℕ) (k total : ℕ) → Assigning key n w x k total → Bounded n w x k total
bounds_of key n w x k total A = record { bound = A.bound; room = A.room; behind = A.behind; fits = A.fits }

-- of texts by a number, as they go by the format version: all of this, and the bounds by one of them
pub assign_all : (key : ℕ → ℕ → List ℕ) (n : ℕ) (w x : List ℕ) (k total v : ℕ) → Firsts (key v) n w
    → ((u : ℕ) → Firsts (key u) n w → Assigning (key u) n w x k total)
    → Bounded n w x k total × ((u : ℕ) → Firsts (key u) n w → Assigning (key u) n w x k total)
assign_all key n w x k total v f all = (bounds_of (key v) n w x k total (all v f), all)

pub assign_none : (key : ℕ → List ℕ) (n : ℕ) (w : List ℕ) → Assigning key n w w 0 0
unfolding stored_of flat_map join_of distinct
assign_none key n w =
    record { bound = omega arith; room = refl; behind = refl; fits = omega arith; sum = refl; done = λ p h. absurd (omega arith); left = λ p h k. refl }

module _ (key : ℕ → List ℕ) (n : ℕ) (w : List ℕ) (hn : n + n ≤ length w) (F : Firsts key n w) (x : List ℕ) (k total : ℕ) (A : Assigning key n w x k total) (h : k < n) where
  first_x : First key k (get_or x (n + k) 0)
  first_x = rw (A.left k (omega arith) h) (F k h)

  -- the first use of k is not behind it
  pub first-early : get_or x (n + k) 0 ≤ k
  first-early = first_x.early

  pub assign_new : get_or x (n + k) 0 ≡ k → total + length (key k) < 2 ^ 32 → Assigning key n w (set x (n + k) total) (k + 1) (total + length (key k))
  assign_new e s =
      let f : holds (stored_of key k) (key k) ≡ false = first_new key k (rw e at first_x) in
      let b : n + k < length x = omega arith in
      record {
        bound = omega arith;
        room = length-set x (n + k) total ∙ A.room;
        behind = drop-set-lt (n + n) x (n + k) total (omega arith) ∙ A.behind;
        fits = s;
        sum = rw (add-one, length_new key k f) (omega arith);
        done = λ p l.
            rw (add-one, stored_new key k f)
            (cases (ltb p k)
            (λ t.
            let pk : p < k = ltb-true p k t in
            let ne : (n + p ≡ n + k) → ⊥ = omega arith in
            rw (get_or-set_other x (n + k) (n + p) total 0 ne, offset_old (stored_of key k) (key k ∷ []) (key p) (stored-holds key k p pk)) (A.done p pk))
            (λ t.
            let q : p ≡ k = omega (arith, ltb-false p k t) in
            rw (q, get_or-set_same x (n + k) total 0 b, offset_new (stored_of key k) (key k) f) A.sum));
        left = λ p l m. let ne : (n + p ≡ n + k) → ⊥ = omega arith in rw (get_or-set_other x (n + k) (n + p) total 0 ne) (A.left p (omega arith) m);
      }

  -- where the code has the length of the text as a number
  pub assign_next : (len : ℕ) → len ≡ length (key k) → get_or x (n + k) 0 ≡ k → total + len < 2 ^ 32
      → Assigning key n w (set x (n + k) total) (k + 1) (total + len)
  assign_next len e q s = let t : total + length (key k) < 2 ^ 32 = omega (arith, e) in rw e (assign_new q t)

  pub assign_old : (get_or x (n + k) 0 ≡ k → ⊥) → Assigning key n w (set x (n + k) (get_or x (n + get_or x (n + k) 0) 0)) (k + 1) total
  assign_old e =
      let r : ℕ = get_or x (n + k) 0 in
      let G : First key k r = first_x in
      let f : holds (stored_of key k) (key k) ≡ true = first_old key k r G e in
      let rk : r < k = omega (arith, G.early) in
      let v : ℕ = get_or x (n + r) 0 in
      let b : n + k < length x = omega arith in
      record {
        bound = omega arith;
        room = length-set x (n + k) v ∙ A.room;
        behind = drop-set-lt (n + n) x (n + k) v (omega arith) ∙ A.behind;
        fits = A.fits;
        sum = rw (add-one, stored_old key k f) A.sum;
        done = λ p l.
            rw (add-one, stored_old key k f)
            (cases (ltb p k)
            (λ t.
            let pk : p < k = ltb-true p k t in
            let ne : (n + p ≡ n + k) → ⊥ = omega arith in
            rw (get_or-set_other x (n + k) (n + p) v 0 ne) (A.done p pk))
            (λ t.
            let q : p ≡ k = omega (arith, ltb-false p k t) in
            rw (q, get_or-set_same x (n + k) v 0 b) (A.done r rk ∙ ap (offset_of (stored_of key k)) G.alike)));
        left = λ p l m. let ne : (n + p ≡ n + k) → ⊥ = omega arith in rw (get_or-set_other x (n + k) (n + p) v 0 ne) (A.left p (omega arith) m);
      }

  -- where a first use does not fit any more, the whole does not
  pub assign_long : get_or x (n + k) 0 ≡ k → 2 ^ 32 ≤ total + length (key k) → 2 ^ 32 ≤ length (texts_joined (stored_of key n))
  assign_long e s =
      let f : holds (stored_of key k) (key k) ≡ false = first_new key k (rw e at first_x) in
      let q : suc k + (n - suc k) ≡ n = omega arith in
      let g : length (texts_joined (stored_of key (suc k))) ≤ length (texts_joined (stored_of key n)) = rw q at (length_grows key (suc k) (n - suc k)) in
      omega (arith, length_new key k f, A.sum)

-- ---- the two answers

-- what a pass leaves: its answer, and the offsets if they fit
abbrev pub Assigned : (ℕ → List ℕ) → ℕ → List ℕ → Option ℕ → Type 0
Assigned key n x r = (r ≡ stored_answer (length (texts_joined (stored_of key n)))) × (length (texts_joined (stored_of key n)) < 2 ^ 32 → Offsets key n x)

pub assigned_long : (key : ℕ → List ℕ) (n : ℕ) (x : List ℕ) → 2 ^ 32 ≤ length (texts_joined (stored_of key n)) → Assigned key n x None
unfolding stored_answer
assigned_long key n x h = (rw (le-ltb (length (texts_joined (stored_of key n))) (2 ^ 32) h), λ m. absurd (omega arith))

pub assigned_whole : (key : ℕ → List ℕ) (n : ℕ) (w x : List ℕ) (k total : ℕ) → Assigning key n w x k total → n ≤ k → Assigned key n x (Some total)
unfolding stored_answer
assigned_whole key n w x k total A h =
    let e : k ≡ n = omega arith in
    let s : total ≡ length (texts_joined (stored_of key n)) = A.sum ∙ ap (λ (p : ℕ). length (texts_joined (stored_of key p))) e in (
      rw (← s, lt-ltb total (2 ^ 32) A.fits),
      λ m p l. A.done p (omega arith) ∙ ap (λ (q : ℕ). offset_of (stored_of key q) (key p)) e,
    )
