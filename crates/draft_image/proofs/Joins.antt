-- Every element of a list, sums, and where the parts of a joined list stand.
use Prim.Native.Nat.{ℕ, zero, suc, ◌+◌, ◌*◌, ◌≤◌, ◌<◌}
use mathlib.Core.Path.{◌≡◌, refl, sym, ap, ◌∙◌, subst}
use mathlib.Core.List.{List, [], ◌∷◌, ◌++◌}
use native.Mathlib.Omega.{arith}
use native.Mathlib.Nat.{not-suc-le-zero, zero-mul, suc-mul, add-mul}
use native.Mathlib.Decide.{ℕ_discrete}
use lib.ListN.{length, get_or, take, drop, length-append, length-drop, get_or-append}
use lib.Seq.{get_or-append-add, take-append-le, drop-append-le, drop_at, take-length}
use Rattle.laws.specs.Counted.{sum_of, join_of}
use Rattle.laws.proofs.Members.{All, sum_ext}

-- ---- every element

pub all_get : (P : ℕ → Type 0) (xs : List ℕ) (k : ℕ) → All P xs → P 0 → P (get_or xs k 0)
all_get P [] k a z = z
all_get P (x ∷ xs) zero a z = a.0
all_get P (x ∷ xs) (suc k) a z = all_get P xs k a.1 z

pub all_nth : (P : ℕ → Type 0) (xs : List ℕ) (k : ℕ) → k < length xs → All P xs → P (get_or xs k 0)
all_nth P [] k h a = absurd (not-suc-le-zero h)
all_nth P (x ∷ xs) zero h a = a.0
all_nth P (x ∷ xs) (suc k) h a = all_nth P xs k (omega arith) a.1

-- ---- sums

pub sum_const : (n c : ℕ) → sum_of n (λ j. c) ≡ n * c
unfolding sum_of
sum_const zero c = sym (simp zero-mul)
sum_const (suc n) c = simp (suc-mul, sum_const n c)

pub sum_scale : (n c : ℕ) (g : ℕ → ℕ) → sum_of n (λ j. g j * c) ≡ sum_of n g * c
unfolding sum_of
sum_scale zero c g = sym (zero-mul c)
sum_scale (suc n) c g = rw (sum_scale n c g) (sym (add-mul (sum_of n g) (g n) c))

pub sum_below : (k n : ℕ) (g : ℕ → ℕ) → k < n → sum_of k g + g k ≤ sum_of n g
unfolding sum_of
sum_below k zero g h = absurd (not-suc-le-zero h)
sum_below k (suc n) g h =
    elim (ℕ_discrete k n) [
      | yes e ↦ subst (λ (m : ℕ). sum_of k g + g k ≤ sum_of m g + g m) e (omega arith)
      | no d ↦ omega (arith, sum_below k n g (omega arith))
    ]

-- ---- joined parts

-- whose parts are the same
pub join_same : {X : Type 0} (n : ℕ) (a b : ℕ → List X) → ((j : ℕ) → j < n → a j ≡ b j) → join_of n a ≡ join_of n b
unfolding join_of
join_same zero a b e = refl
join_same (suc n) a b e = λ t. join_same n a b (λ j h. e j (omega arith)) t ++ e n (omega arith) t

pub join_length : {X : Type 0} (n : ℕ) (g : ℕ → List X) → length (join_of n g) ≡ sum_of n (λ j. length (g j))
unfolding join_of sum_of
join_length zero g = refl
join_length (suc n) g = rw (length-append, join_length n g) refl

-- part k stands where the lengths before it say
pub join_part : (n k : ℕ) (g : ℕ → List ℕ) → k < n → take (length (g k)) (drop (sum_of k (λ j. length (g j))) (join_of n g)) ≡ g k
unfolding join_of
join_part zero k g h = absurd (not-suc-le-zero h)
join_part (suc n) k g h =
    elim (ℕ_discrete k n) [
      | yes e ↦ subst (λ (m : ℕ). take (length (g m)) (drop (sum_of m (λ j. length (g j))) (join_of n g ++ g n)) ≡ g m) (sym e)
          (ap (take (length (g n))) (drop_at (join_of n g) (g n) _ (join_length n g)) ∙ take-length (g n))
      | no d ↦
          let fits = sum_below k n (λ j. length (g j)) (omega arith) in
          let whole = join_length n g in
          let left = length-drop (sum_of k (λ j. length (g j))) (join_of n g) in
          ap (take (length (g k))) (drop-append-le (sum_of k (λ j. length (g j))) (join_of n g) (g n) (omega arith))
          ∙ take-append-le (length (g k)) (drop (sum_of k (λ j. length (g j))) (join_of n g)) (g n) (omega arith)
          ∙ join_part n k g (omega arith)
    ]

-- element k of part j
pub join_at : {X : Type 0} (z : X) (n j k : ℕ) (g : ℕ → List X) → j < n → k < length (g j) → get_or (join_of n g) (sum_of j (λ m. length (g m)) + k) z ≡ get_or (g j) k z
unfolding join_of
join_at z zero j k g h q = absurd (not-suc-le-zero h)
join_at z (suc n) j k g h q =
    elim (ℕ_discrete j n) [
      | yes e ↦ subst (λ (m : ℕ). get_or (join_of n g ++ g n) (sum_of m (λ i. length (g i)) + k) z ≡ get_or (g m) k z) (sym e)
          (rw (← join_length n g) (get_or-append-add (join_of n g) (g n) k z))
      | no d ↦
          let below = sum_below j n (λ m. length (g m)) (omega arith) in
          let whole = join_length n g in
          get_or-append (join_of n g) (g n) z (sum_of j (λ m. length (g m)) + k) (omega arith) ∙ join_at z n j k g (omega arith) q
    ]

-- the same, where the parts' lengths are known
module _ (n : ℕ) (g : ℕ → List ℕ) (len : ℕ → ℕ) (e : (m : ℕ) → m < n → length (g m) ≡ len m) where
  pub join_read : (j k : ℕ) → j < n → k < len j → get_or (join_of n g) (sum_of j len + k) 0 ≡ get_or (g j) k 0
  join_read j k h q = rw (sym (sum_ext j (λ m. length (g m)) len (λ m i. e m (omega arith)))) (join_at 0 n j k g h (omega (arith, e j h)))

  pub join_len : length (join_of n g) ≡ sum_of n len
  join_len = join_length n g ∙ sum_ext n (λ m. length (g m)) len e

-- parts of one length
module _ (n c : ℕ) (g : ℕ → List ℕ) (e : (m : ℕ) → m < n → length (g m) ≡ c) where
  pub even_read : (j k : ℕ) → j < n → k < c → get_or (join_of n g) (j * c + k) 0 ≡ get_or (g j) k 0
  even_read j k h q = rw (sym (sum_const j c)) (join_read n g (λ m. c) e j k h q)

  pub even_len : length (join_of n g) ≡ n * c
  even_len = join_len n g (λ m. c) e ∙ sum_const n c
