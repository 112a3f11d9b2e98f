-- Words put one after the other into a lent slice, each by a rule.
use Prim.Native.Nat.{ℕ, zero, suc, ◌+◌, ◌-◌, ◌≤◌, ◌<◌}
use mathlib.Core.Path.{◌≡◌, refl, sym, ap, ◌∙◌}
use mathlib.Core.List.{List, [], ◌∷◌, ◌++◌}
use native.Mathlib.Omega.{arith}
use native.Mathlib.Nat.{add-zero, not-suc-le-zero, le_of_suc-le-suc}
use native.Mathlib.Numerals.{add-one}
use lib.ListN.{length, get_or, set, take, drop, length-set, length-drop}
use lib.Seq.{take-suc, length-take-le, get_or-drop, sets, get_or-set_other, get_or-set_same, drop-set-lt}
use Rattle.std.specs.List.{copy_within}
use Rattle.std.proofs.lemmas.List.Edits.{sets-eq}
use Rattle.laws.specs.Counted.{join_of}
use Rattle.laws.proofs.Members.{length_join}

-- ---- a run of stores

pub sets_last : (vs l : List ℕ) (i x : ℕ) → set (sets l i vs) (i + length vs) x ≡ sets l i (vs ++ (x ∷ []))
sets_last [] l i x = ap (λ (k : ℕ). set l k x) (add-zero i)
sets_last (v ∷ vs) l i x =
    let e : i + suc (length vs) ≡ suc i + length vs = omega arith in
    rw e (sets_last vs (set l i v) (suc i) x)

-- words behind the run, before it, in it
pub sets-past : (vs l : List ℕ) (i j : ℕ) → i + length vs ≤ j → get_or (sets l i vs) j 0 ≡ get_or l j 0
sets-past [] l i j h = refl
sets-past (v ∷ vs) l i j h = sets-past vs (set l i v) (suc i) j (omega arith) ∙ get_or-set_other l i j v 0 (λ e. omega arith)

pub sets-before : (vs l : List ℕ) (i j : ℕ) → j < i → get_or (sets l i vs) j 0 ≡ get_or l j 0
sets-before [] l i j h = refl
sets-before (v ∷ vs) l i j h = sets-before vs (set l i v) (suc i) j (omega arith) ∙ get_or-set_other l i j v 0 (λ e. omega arith)

pub sets_at : (vs l : List ℕ) (i k : ℕ) → k < length vs → i + length vs ≤ length l → get_or (sets l i vs) (i + k) 0 ≡ get_or vs k 0
sets_at [] l i k h r = absurd (not-suc-le-zero h)
sets_at (v ∷ vs) l i zero h r =
    ap (λ (m : ℕ). get_or (sets (set l i v) (suc i) vs) m 0) (add-zero i) ∙ sets-before vs (set l i v) (suc i) i (omega arith) ∙ get_or-set_same l i v 0 (omega arith)
sets_at (v ∷ vs) l i (suc k) h r =
    let e : i + suc k ≡ suc i + k = omega arith in
    rw e (sets_at vs (set l i v) (suc i) k (le_of_suc-le-suc h) (omega (arith, length-set l i v)))

pub sets-drop : (vs l : List ℕ) (i n : ℕ) → i + length vs ≤ n → drop n (sets l i vs) ≡ drop n l
sets-drop [] l i n h = refl
sets-drop (v ∷ vs) l i n h = sets-drop vs (set l i v) (suc i) n (omega arith) ∙ drop-set-lt n l i v (omega arith)

-- ---- a loop of stores

module _ (w₀ : List ℕ) (at count : ℕ) (g : ℕ → ℕ) where
  pub record Filled (w : List ℕ) (i : ℕ) : Type 0 where
    pub within : i ≤ count
    pub words : w ≡ sets w₀ at (join_of i (λ j. g j ∷ []))
    pub long : length w ≡ length w₀

  pub fill_start : Filled w₀ 0
  unfolding join_of
  fill_start = record { within = omega arith; words = refl; long = refl }

  module _ (w : List ℕ) (i : ℕ) (f : Filled w i) where
    -- what is read behind and before what was put
    pub fill_past : (j : ℕ) → at + i ≤ j → get_or w j 0 ≡ get_or w₀ j 0
    fill_past j h = ap (λ (v : List ℕ). get_or v j 0) f.words ∙ sets-past (join_of i (λ k. g k ∷ [])) w₀ at j (omega (arith, length_join i g))

    pub fill_before : (j : ℕ) → j < at → get_or w j 0 ≡ get_or w₀ j 0
    fill_before j h = ap (λ (v : List ℕ). get_or v j 0) f.words ∙ sets-before (join_of i (λ k. g k ∷ [])) w₀ at j h

    pub fill_next : (x : ℕ) → i < count → x ≡ g i → Filled (set w (at + i) x) (i + 1)
    unfolding join_of
    fill_next x h e =
        record {
          within = omega arith;
          words =
              rw (add-one i, e)
              (ap (λ (v : List ℕ). set v (at + i) (g i)) f.words
              ∙ ap (λ (n : ℕ). set (sets w₀ at (join_of i (λ j. g j ∷ []))) (at + n) (g i)) (sym (length_join i g))
              ∙ sets_last (join_of i (λ j. g j ∷ [])) w₀ at (g i));
          long = length-set w (at + i) x ∙ f.long;
        }

    pub fill_end : count ≤ i → w ≡ sets w₀ at (join_of count (λ j. g j ∷ []))
    fill_end h =
        let e : i ≡ count = omega (arith, f.within) in
        rw (← e) f.words

-- ---- the list in another order

module _ (w₀ : List ℕ) (count list : ℕ) (room : count + count ≤ list) (w : List ℕ) (i : ℕ) (h : i < count) where
  -- the word that the i-th names
  pub gather_next : Filled w₀ count count (λ j. get_or w₀ (list + get_or w₀ j 0) 0) w i → (x y : ℕ) → x ≡ get_or w i 0 → y ≡ get_or w (list + x) 0
      → Filled w₀ count count (λ j. get_or w₀ (list + get_or w₀ j 0) 0) (set w (count + i) y) (i + 1)
  gather_next f x y e k =
      fill_next w₀ count count (λ j. get_or w₀ (list + get_or w₀ j 0) 0) w i f y h
      (k ∙ fill_past w₀ count count (λ j. get_or w₀ (list + get_or w₀ j 0) 0) w i f (list + x) (omega arith)
      ∙ ap (λ (m : ℕ). get_or w₀ (list + m) 0) (e ∙ fill_before w₀ count count (λ j. get_or w₀ (list + get_or w₀ j 0) 0) w i f i h))

-- ---- words copied within a slice

run_taken : (w : List ℕ) (a n : ℕ) → a + n ≤ length w → join_of n (λ i. get_or w (a + i) 0 ∷ []) ≡ take n (drop a w)
unfolding join_of
run_taken w a zero h = refl
run_taken w a (suc n) h =
    rw (run_taken w a n (omega arith), ← get_or-drop a w n 0) (sym (take-suc (drop a w) n 0 (omega (arith, length-drop a w))))

pub copied_run : (w : List ℕ) (a n at : ℕ) → a + n ≤ length w → at + n ≤ length w → copy_within w a (a + n) at ≡ sets w at (join_of n (λ i. get_or w (a + i) 0 ∷ []))
copied_run w a n at h k =
    let size : a + n - a ≡ n = omega arith in
    let long : length (take n (drop a w)) ≡ n = length-take-le n (drop a w) (omega (arith, length-drop a w)) in
    rw (run_taken w a n h, size, sets-eq (take n (drop a w)) w at (omega arith), long)
