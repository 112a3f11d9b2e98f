-- Whether a target points at a node, sums of that, and the words of a right summary.
use Prim.Native.Nat.{ℕ, zero, suc, ◌+◌, ◌≤◌, ◌<◌}
use mathlib.Core.Path.{◌≡◌, refl, sym, ap, ◌∙◌}
use mathlib.Core.Bool.{Bool, true, false, cond}
use mathlib.Core.List.{List, [], ◌∷◌}
use native.Mathlib.Omega.{arith}
use native.Mathlib.Decide.{ℕ_discrete}
use lib.Dec.{eqb}
use lib.ListN.{length, get_or, take}
use lib.Seq.{get_or-take, ext_get_or, length-take-le}
use borrow.Author.Tests.{eq-eqb, ne_eqb}
use Rattle.laws.specs.Counted.{sum_of, join_of}
use Rattle.laws.proofs.Members.{length_join, get_join}
use Rattle.words.specs.Words.{NONE, is_none}
use Rattle.image.specs.Sections.{Sections, node_count}
use Rattle.target_counts.specs.Summary.{points_at, pointed_at, summary_of, RightSummary}

-- ---- one target

pub points_nowhere : (t n : ℕ) → t ≡ NONE → 0 ≡ points_at t n
unfolding points_at
points_nowhere t n e = rw (eq-eqb t NONE e)

pub points_here : (t n : ℕ) → (t ≡ NONE → ⊥) → t ≡ n → 1 ≡ points_at t n
unfolding points_at
points_here t n d e = rw (ne_eqb t NONE d, eq-eqb t n e)

pub points_elsewhere : (t n : ℕ) → (t ≡ NONE → ⊥) → (t ≡ n → ⊥) → 0 ≡ points_at t n
unfolding points_at
points_elsewhere t n d e = rw (ne_eqb t NONE d, ne_eqb t n e)

pub points_once : (t n : ℕ) → points_at t n ≤ 1
unfolding points_at
points_once t n = by (is_none t) (eqb t n)
  where
    by : (a b : Bool) → cond {A = ℕ} a 0 (cond b 1 0) ≤ 1
    by true b = omega arith
    by false true = omega arith
    by false false = omega arith

pub at_most_one : (r t n : ℕ) → r ≡ points_at t n → r ≤ 1
at_most_one r t n e = let z = points_once t n in omega arith

-- nothing points at a node numbered NONE
pub none_points : (t : ℕ) → points_at t NONE ≡ 0
unfolding points_at
none_points t = by (is_none t)
  where
    by : (b : Bool) → cond {A = ℕ} b 0 (cond b 1 0) ≡ 0
    by true = refl
    by false = refl

-- ---- sums

pub sum_bound : (n : ℕ) (g : ℕ → ℕ) → ((i : ℕ) → g i ≤ 1) → sum_of n g ≤ n
unfolding sum_of
sum_bound zero g h = omega arith
sum_bound (suc n) g h = let e = sum_bound n g h in let k = h n in omega arith

pub sum_none : (n : ℕ) (g : ℕ → ℕ) → ((i : ℕ) → g i ≡ 0) → sum_of n g ≡ 0
unfolding sum_of
sum_none zero g h = refl
sum_none (suc n) g h = let e = sum_none n g h in let k = h n in omega arith

pub sum_more : (a b : ℕ) (g : ℕ → ℕ) → a ≤ b → sum_of a g ≤ sum_of b g
unfolding sum_of
sum_more a zero g h = let z : a ≡ 0 = omega arith in rw z (omega arith)
sum_more a (suc b) g h = by (ℕ_discrete a (suc b)) (sum_more a b g)
  where
    by : Dec (a ≡ suc b) → (a ≤ b → sum_of a g ≤ sum_of b g) → sum_of a g ≤ sum_of b g + g b
    by (yes e) next = rw e (omega arith)
    by (no d) next = let z = next (omega arith) in omega arith

-- ---- a word of a summary

pub right_at_lem : (s : Sections) (summary : List ℕ) → RightSummary s summary → (m : ℕ) → m < node_count s → get_or summary m 0 ≡ pointed_at s m
unfolding summary_of
right_at_lem s summary r m h = sym (get_or-take (node_count s) summary m 0 h) ∙ ap (λ (l : List ℕ). get_or l m 0) r ∙ get_join 0 (node_count s) (pointed_at s) m h

pub right_of : (s : Sections) (summary : List ℕ) → node_count s ≤ length summary
    → ((m : ℕ) → m < node_count s → get_or summary m 0 ≡ pointed_at s m) → RightSummary s summary
unfolding summary_of
right_of s summary room all =
    let l : length (take (node_count s) summary) ≡ node_count s = length-take-le (node_count s) summary room in
    ext_get_or 0 (take (node_count s) summary) (join_of (node_count s) (λ n. pointed_at s n ∷ []))
    (l ∙ sym (length_join (node_count s) (pointed_at s)))
    (λ m h. let k : m < node_count s = omega arith in get_or-take (node_count s) summary m 0 k ∙ all m k ∙ sym (get_join 0 (node_count s) (pointed_at s) m k))
