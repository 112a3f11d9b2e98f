-- The uses in number order, and what their sort by texts says of each place.
use Prim.Native.Nat.{ℕ, zero, suc, ◌+◌, ◌-◌, ◌≤◌, ◌<◌}
use mathlib.Core.Path.{◌≡◌, sym, ap, ◌∙◌}
use mathlib.Core.Logic.{◌⊎◌, inl, inr, ⊎_elim}
use mathlib.Core.List.{List, [], ◌∷◌, ◌++◌}
use mathlib.Core.Bool.{true, false}
use native.Mathlib.Omega.{arith}
use borrow.Author.Tests.{ltb-true, ltb-false}
use lib.Dec.{ltb}
use lib.ListN.{length, get_or, take, drop}
use Rattle.laws.specs.Sorted.{insert, isort}
use Rattle.laws.proofs.Lists.{drop_more}
use Rattle.laws.proofs.Members.{All}
use Rattle.laws.proofs.Sorted.{all_insert, all_isort, length-isort}
use Rattle.texts.specs.Text.{before, by_key}
use Rattle.texts.proofs.Text.{before-trans, trichotomy}
use Rattle.write_sorting.specs.Sorted.{up_from, merge, part, Ordered, Rises}
use Rattle.write_sorting.proofs.Laws.{cases, differ, key_strict, sort_append}
use Rattle.write_sorting.proofs.ListProperties.{Pairs, In, here, there, all_map, all_at, pairs_at, in_at, in_isort}
use Rattle.write_sorting.proofs.OrderedLists.{ordered-isort, isort-rises}
use Rattle.write_sorting.proofs.NumberedWords.{up_from-length, up_from-at, up_from-append}
use Rattle.write_interning.specs.Uses.{RisesFrom}

-- ---- the numbers from k on

up_from-above : (k n : ℕ) {j : ℕ} → j < k → All (λ y. j < y) (up_from k n)
unfolding up_from
up_from-above k zero h = tt
up_from-above k (suc n) h = (h, up_from-above (suc k) n (omega arith))

up_from-below : (k n : ℕ) {j : ℕ} → k + n ≤ j → All (λ y. y < j) (up_from k n)
unfolding up_from
up_from-below k zero h = tt
up_from-below k (suc n) h = (omega arith, up_from-below (suc k) n (omega arith))

up_from-pairs : (k n : ℕ) → Pairs ◌<◌ (up_from k n)
unfolding up_from
up_from-pairs k zero = tt
up_from-pairs k (suc n) = (up_from-above (suc k) n (omega arith), up_from-pairs (suc k) n)

up_from-in : (k n j : ℕ) → k ≤ j → j < k + n → In j (up_from k n)
unfolding up_from
up_from-in k zero j h l = absurd (omega arith)
up_from-in k (suc n) j h l =
    cases (ltb k j)
    (λ e. there (up_from-in (suc k) n j (ltb-true k j e) (omega arith)))
    (λ e. let q : j ≡ k = omega (arith, ltb-false k j e) in rw q here)

-- ---- the sorted uses, of which those from p on rise

pub arranged : (key : ℕ → List ℕ) (p n : ℕ) → p ≤ n → RisesFrom (by_key key) p n
    → merge (by_key key) (isort (by_key key) (up_from 0 p)) (up_from p (n - p)) ≡ isort (by_key key) (up_from 0 n)
arranged key p n h r =
    let e : p + (n - p) ≡ n = omega arith in
    let f : 0 + p ≡ p = omega arith in
    ap (merge (by_key key) (isort (by_key key) (up_from 0 p))) (sym (isort-rises (by_key key) (key_strict key) (up_from p (n - p)) up))
    ∙ sym (sort_append (by_key key) (key_strict key) (up_from 0 p) (up_from p (n - p)))
    ∙ ap (λ (q : ℕ). isort (by_key key) (up_from 0 p ++ up_from q (n - p))) (sym f)
    ∙ ap (isort (by_key key)) (sym (up_from-append 0 p (n - p)))
    ∙ ap (λ (q : ℕ). isort (by_key key) (up_from 0 q)) e
  where
    up : Rises (by_key key) (up_from p (n - p))
    up i g =
        let l = up_from-length p (n - p) in
        let q : p + suc i ≡ suc (p + i) = omega arith in
        rw (up_from-at p (n - p) i (omega arith), up_from-at p (n - p) (suc i) (omega arith), q) (r (p + i) (omega arith) (omega arith))

-- ---- what a sort of the uses 0 to n - 1 says

-- a's text comes before b's, or they are one and a is used before b
abbrev pub Before : (ℕ → List ℕ) → ℕ → ℕ → Type 0
Before key a b = (before (key a) (key b) ≡ true) ⊎ ((key a ≡ key b) × (a < b))

module _ (key : ℕ → List ℕ) where
  before_on : (a b c : ℕ) → Before key a b → Before key b c → Before key a c
  before_on a b c (inl p) (inl q) = inl (before-trans (key a) (key b) (key c) p q)
  before_on a b c (inl p) (inr q) = inl (rw q.0 at p)
  before_on a b c (inr p) (inl q) = inl (rw (← p.0) at q)
  before_on a b c (inr p) (inr q) = inr (p.0 ∙ q.0, omega arith)

  -- b's text does not come before that of a, which is used earlier
  before_of : (a b : ℕ) → by_key key b a ≡ false → a < b → Before key a b
  before_of a b e h = ⊎_elim inl (λ f. ⊎_elim (λ g. inr (g, h)) (λ g. differ (sym g ∙ e)) f) (trichotomy (key a) (key b))

  pairs_insert : (x : ℕ) (l : List ℕ) → All (λ y. x < y) l → Pairs (Before key) l → Pairs (Before key) (insert (by_key key) x l)
  unfolding insert
  pairs_insert x [] a s = (tt, tt)
  pairs_insert x (y ∷ ys) a s =
      cases (by_key key y x)
      (λ e. rw e (all_insert (by_key key) (Before key y) x ys (inl e) s.0, pairs_insert x ys a.1 s.1))
      (λ e. let b = before_of x y e a.0 in rw e ((b, all_map (λ z. before_on x y z b) ys s.0), s))

  pairs_isort : (l : List ℕ) → Pairs ◌<◌ l → Pairs (Before key) (isort (by_key key) l)
  unfolding isort
  pairs_isort [] s = tt
  pairs_isort (x ∷ xs) s = pairs_insert x (isort (by_key key) xs) (all_isort (by_key key) (λ y. x < y) xs s.0) (pairs_isort xs s.1)

pub record Order (key : ℕ → List ℕ) (n : ℕ) (o : List ℕ) : Type 0 where
  pub count : length o ≡ n
  pub below : (i : ℕ) → i < n → get_or o i 0 < n
  pub up : (i j : ℕ) → i < j → j < n → Before key (get_or o i 0) (get_or o j 0)
  pub each : (k : ℕ) → k < n → (i : ℕ) × (i < n) × (get_or o i 0 ≡ k)

pub order-isort : (key : ℕ → List ℕ) (n : ℕ) → Order key n (isort (by_key key) (up_from 0 n))
order-isort key n =
    let o : List ℕ = isort (by_key key) (up_from 0 n) in
    let c : length o ≡ n = length-isort (by_key key) (up_from 0 n) ∙ up_from-length 0 n in
    record {
      count = c;
      below = λ i h. all_at (λ y. y < n) o (all_isort (by_key key) (λ y. y < n) (up_from 0 n) (up_from-below 0 n (omega arith))) i (omega arith);
      up = λ i j h k. pairs_at (Before key) o (pairs_isort key (up_from 0 n) (up_from-pairs 0 n)) i j h (omega arith);
      each = λ k h. let m = in_at k o (in_isort (by_key key) k (up_from 0 n) (up_from-in 0 n k (omega arith) (omega arith))) in (m.0, omega (arith, m.1), m.2);
    }

-- ---- the first p uses are numbered (x) and sorted (y), the others numbered (z), and the two parts merged; K gives the texts by the tables from `at` on

pub record Parts (K : List ℕ → ℕ → List ℕ) (w z : List ℕ) (p n at : ℕ) : Type 0 where
  pub low : take p z ≡ isort (by_key (K (drop at w))) (up_from 0 p)
  pub high : part p n z ≡ up_from p (n - p)
  pub behind : drop at z ≡ drop at w

module _ (K : List ℕ → ℕ → List ℕ) (w z : List ℕ) (p n at : ℕ) where
  pub parts : (x y : List ℕ) → p ≤ n → n ≤ at → part 0 p x ≡ up_from 0 (p - 0) → drop p x ≡ drop p w → take p y ≡ isort (by_key (K (drop at x))) (take p x)
      → drop at y ≡ drop at x → take p z ≡ take p y → part p n z ≡ up_from p (n - p) → drop n z ≡ drop n y → Parts K w z p n at
  parts x y hp hn nx bx sy by lz nz bz =
      let e : p - 0 ≡ p = omega arith in
      let tx : drop at x ≡ drop at w = drop_more p at x w (omega arith) bx in
      let first : take p x ≡ up_from 0 p = ap (λ (k : ℕ). take k x) (sym e) ∙ nx ∙ ap (up_from 0) e in
      record {
        low = lz ∙ sy ∙ ap (isort (by_key (K (drop at x)))) first ∙ ap (λ (d : List ℕ). isort (by_key (K d)) (up_from 0 p)) tx;
        high = nz;
        behind = drop_more n at z y hn bz ∙ by ∙ tx;
      }

  pub parts-ordered : Parts K w z p n at → Ordered (by_key (K (drop at z))) (take p z)
  parts-ordered P = rw (P.behind, P.low) (ordered-isort (by_key (K (drop at w))) (key_strict (K (drop at w))) (up_from 0 p))

  pub parts_merged : Parts K w z p n at → p ≤ n → RisesFrom (by_key (K (drop at w))) p n
      → merge (by_key (K (drop at z))) (take p z) (part p n z) ≡ isort (by_key (K (drop at w))) (up_from 0 n)
  parts_merged P hp r = rw (P.behind, P.low, P.high) (arranged (K (drop at w)) p n hp r)
