-- Laws of lists of numbers: what holds of every element, membership, distinct numbers, sums over the numbers below a count.
use Prim.Native.Nat.{ℕ, zero, suc, ◌+◌, ◌-◌, ◌≤◌, ◌<◌, suc-le-suc, zero-le}
use mathlib.Core.Path.{◌≡◌, refl, sym, ap, ◌∙◌, subst}
use mathlib.Core.List.{List, [], ◌∷◌, ◌++◌, reverse, reverse_aux, reverse-append}
use mathlib.Core.Bool.{Bool, true, false, cond, ◌&&◌, ◌||◌, false≢true}
use native.Mathlib.Omega.{arith}
use native.Mathlib.Nat.{not-suc-le-zero, le_trans}
use native.Mathlib.Decide.{ℕ_discrete}
use lib.ListN.{length, get_or, length-append, get_or-append}
use lib.Seq.{get_or-append_seam}
use lib.Dec.{eqb}
use borrow.Author.Tests.{eqb-true, eqb-false, eq-eqb}
use Rattle.laws.specs.Counted.{sum_of, all_of, join_of, those}
use Rattle.laws.specs.Lists.{has}
use Rattle.laws.proofs.Slots.{join_front}

-- ---- tests

pub and-true : (a b : Bool) → a ≡ true → b ≡ true → (a && b) ≡ true
and-true a b p q = rw (p, q) refl

pub or_left : (a b : Bool) → a ≡ true → (a || b) ≡ true
or_left a b p = rw p refl

pub or_right : (a b : Bool) → b ≡ true → (a || b) ≡ true
or_right true b p = refl
or_right false b p = p

pub or-false : (a b : Bool) → (a || b) ≡ false → (a ≡ false) × (b ≡ false)
or-false true b p = absurd (false≢true (sym p))
or-false false b p = (refl, p)

pub or_nil : (b : Bool) → (b || false) ≡ b
or_nil true = refl
or_nil false = refl

-- ---- every element

abbrev pub All : (ℕ → Type 0) → List ℕ → Type 0
All P [] = Unit {0}
All P (x ∷ xs) = P x × All P xs

pub all_map : {P Q : ℕ → Type 0} (xs : List ℕ) → ((x : ℕ) → P x → Q x) → All P xs → All Q xs
all_map [] g a = tt
all_map (x ∷ xs) g a = (g x a.0, all_map xs g a.1)

pub all_append : (P : ℕ → Type 0) (xs ys : List ℕ) → All P xs → All P ys → All P (xs ++ ys)
all_append P [] ys a b = b
all_append P (x ∷ xs) ys a b = (a.0, all_append P xs ys a.1 b)

all_onto : (P : ℕ → Type 0) (xs ys : List ℕ) → All P xs → All P ys → All P (reverse_aux xs ys)
all_onto P [] ys a b = b
all_onto P (x ∷ xs) ys a b = all_onto P xs (x ∷ ys) a.1 (a.0, b)

pub all_reverse : (P : ℕ → Type 0) (xs : List ℕ) → All P xs → All P (reverse xs)
all_reverse P xs a = all_onto P xs [] a tt

pub all_join : (P : ℕ → Type 0) (n : ℕ) (g : ℕ → ℕ) → ((j : ℕ) → j < n → P (g j)) → All P (join_of n (λ j. g j ∷ []))
unfolding join_of
all_join P zero g h = tt
all_join P (suc n) g h =
    all_append P (join_of n (λ j. g j ∷ [])) (g n ∷ []) (all_join P n g (λ j k. h j (omega arith))) (h n (omega arith), tt)

pub all_has : (P : ℕ → Type 0) (i : ℕ) (xs : List ℕ) → has i xs ≡ true → All P xs → P i
unfolding has
all_has P i [] h a = absurd (false≢true h)
all_has P i (x ∷ xs) h a = go (λ q. all_has P i xs q a.1) (eqb i x) refl h
  where
    go : (has i xs ≡ true → P i) → (b : Bool) → eqb i x ≡ b → (b || has i xs) ≡ true → P i
    go r true e q = subst P (sym (eqb-true i x e)) a.0
    go r false e q = r q

-- what holds of each member holds of every element
pub all_members : (P : ℕ → Type 0) (xs : List ℕ) → ((i : ℕ) → has i xs ≡ true → P i) → All P xs
unfolding has
all_members P [] h = tt
all_members P (x ∷ xs) h = (
  h x (or_left (eqb x x) (has x xs) (eq-eqb x x refl)),
  all_members P xs (λ i q. h i (or_right (eqb i x) (has i xs) q)),
)

-- ---- members

pub has_append : (y : ℕ) (xs ys : List ℕ) → has y (xs ++ ys) ≡ (has y xs || has y ys)
unfolding has
has_append y [] ys = refl
has_append y (x ∷ xs) ys = go (eqb y x) (has_append y xs ys)
  where
    go : (b : Bool) → has y (xs ++ ys) ≡ (has y xs || has y ys) → (b || has y (xs ++ ys)) ≡ (b || has y xs || has y ys)
    go true e = refl
    go false e = e

has_onto : (y : ℕ) (xs ys : List ℕ) → has y (reverse_aux xs ys) ≡ (has y xs || has y ys)
unfolding has
has_onto y [] ys = refl
has_onto y (x ∷ xs) ys = has_onto y xs (x ∷ ys) ∙ go (eqb y x) (has y xs)
  where
    go : (a b : Bool) → (b || (a || has y ys)) ≡ (a || b || has y ys)
    go true true = refl
    go true false = refl
    go false true = refl
    go false false = refl

pub has_reverse : (y : ℕ) (xs : List ℕ) → has y (reverse xs) ≡ has y xs
unfolding has
has_reverse y xs = has_onto y xs [] ∙ or_nil (has y xs)

pub has_join : (n m : ℕ) (g : ℕ → ℕ) → m < n → has (g m) (join_of n (λ j. g j ∷ [])) ≡ true
unfolding join_of has
has_join zero m g h = absurd (not-suc-le-zero h)
has_join (suc n) m g h =
    has_append (g m) (join_of n (λ j. g j ∷ [])) (g n ∷ [])
    ∙ elim (ℕ_discrete m n) [
      | yes e ↦ or_right (has (g m) (join_of n (λ j. g j ∷ []))) (eqb (g m) (g n) || false) (or_left (eqb (g m) (g n)) false (eq-eqb (g m) (g n) (ap g e)))
      | no d ↦ or_left (has (g m) (join_of n (λ j. g j ∷ []))) (eqb (g m) (g n) || false) (has_join n m g (omega arith))
    ]

pub length_join : {X : Type 0} (n : ℕ) (g : ℕ → X) → length (join_of n (λ j. g j ∷ [])) ≡ n
unfolding join_of
length_join zero g = refl
length_join (suc n) g = length-append (join_of n (λ j. g j ∷ [])) (g n ∷ []) ∙ omega (arith, length_join n g)

pub get_join : {X : Type 0} (z : X) (n : ℕ) (g : ℕ → X) (i : ℕ) → i < n → get_or (join_of n (λ j. g j ∷ [])) i z ≡ g i
unfolding join_of
get_join z zero g i h = absurd (not-suc-le-zero h)
get_join {X} z (suc n) g i h =
    elim (ℕ_discrete i n) [
      | yes e ↦ ap (λ (k : ℕ). get_or (front ++ (g n ∷ [])) k z) (e ∙ sym (length_join n g)) ∙ get_or-append_seam front (g n) [] z ∙ ap g (sym e)
      | no d ↦ get_or-append front (g n ∷ []) z i (omega (arith, length_join n g)) ∙ get_join z n g i (omega arith)
    ]
  where
    front : List X
    front = join_of n (λ j. g j ∷ [])

-- one more number at the end comes first when read backwards
pub reverse_join : (n : ℕ) (g : ℕ → ℕ) → reverse (join_of (suc n) (λ j. g j ∷ [])) ≡ g n ∷ reverse (join_of n (λ j. g j ∷ []))
unfolding join_of
reverse_join n g = reverse-append (join_of n (λ j. g j ∷ [])) (g n ∷ [])

pub join_ext : (n : ℕ) (a b : ℕ → ℕ) → ((i : ℕ) → i < n → a i ≡ b i) → join_of n (λ j. a j ∷ []) ≡ join_of n (λ j. b j ∷ [])
unfolding join_of
join_ext zero a b h = refl
join_ext (suc n) a b h = rw (join_ext n a b (λ i k. h i (omega arith)), h n (omega arith)) refl

-- numbers taken from the last to the first, and read backwards, stand in their order
pub reverse-down : (n : ℕ) (g : ℕ → ℕ) → reverse (join_of n (λ j. g (n - 1 - j) ∷ [])) ≡ join_of n (λ j. g j ∷ [])
reverse-down zero g = unfold join_of in refl
reverse-down (suc n) g =
    let e : suc n - 1 - n ≡ 0 = omega arith in
    reverse_join n (λ j. g (suc n - 1 - j))
    ∙ rw e
    (ap (λ (l : List ℕ). g 0 ∷ l)
    (ap reverse (join_ext n (λ j. g (suc n - 1 - j)) (λ j. g (suc (n - 1 - j))) (λ j h. ap g (omega arith))) ∙ reverse-down n (λ j. g (suc j)))
    ∙ sym (join_front n (λ j. g j ∷ [])))

-- ---- distinct numbers

abbrev pub Distinct : List ℕ → Type 0
Distinct [] = Unit {0}
Distinct (x ∷ xs) = (has x xs ≡ false) × Distinct xs

unfoldable pub without : ℕ → List ℕ → List ℕ
without y [] = []
without y (x ∷ xs) = cond (eqb y x) (without y xs) (x ∷ without y xs)

without-none : (y : ℕ) (xs : List ℕ) → has y xs ≡ false → without y xs ≡ xs
unfolding without has
without-none y [] p = refl
without-none y (x ∷ xs) p =
    rw (or-false (eqb y x) (has y xs) p).0 (ap {B = List ℕ} (λ r. x ∷ r) (without-none y xs (or-false (eqb y x) (has y xs) p).1))

without-length : (y : ℕ) (xs : List ℕ) → Distinct xs → length xs ≤ suc (length (without y xs))
unfolding without
without-length y [] d = zero-le
without-length y (x ∷ xs) d = go (without-length y xs d.1) (eqb y x) refl
  where
    go : length xs ≤ suc (length (without y xs)) → (b : Bool) → eqb y x ≡ b → suc (length xs) ≤ suc (length (cond b (without y xs) (x ∷ without y xs)))
    go r true e = rw (without-none y xs (rw (eqb-true y x e) d.0)) (omega arith)
    go r false e = suc-le-suc r

without_has : (y z : ℕ) (xs : List ℕ) → has z xs ≡ false → has z (without y xs) ≡ false
unfolding without has
without_has y z [] p = refl
without_has y z (x ∷ xs) p = go (without_has y z xs (or-false (eqb z x) (has z xs) p).1) (eqb y x)
  where
    go : has z (without y xs) ≡ false → (b : Bool) → has z (cond b (without y xs) (x ∷ without y xs)) ≡ false
    go r true = r
    go r false = rw ((or-false (eqb z x) (has z xs) p).0, r) refl

without-distinct : (y : ℕ) (xs : List ℕ) → Distinct xs → Distinct (without y xs)
unfolding without
without-distinct y [] d = tt
without-distinct y (x ∷ xs) d = go (without-distinct y xs d.1) (eqb y x)
  where
    go : Distinct (without y xs) → (b : Bool) → Distinct (cond b (without y xs) (x ∷ without y xs))
    go r true = r
    go r false = (without_has y x xs d.0, r)

without-below : (n : ℕ) (xs : List ℕ) → All (λ x. x < suc n) xs → All (λ x. x < n) (without n xs)
unfolding without
without-below n [] a = tt
without-below n (x ∷ xs) a = go (without-below n xs a.1) (eqb n x) refl
  where
    go : All (λ z. z < n) (without n xs) → (b : Bool) → eqb n x ≡ b → All (λ z. z < n) (cond b (without n xs) (x ∷ without n xs))
    go r true e = r
    go r false e = let d = eqb-false n x e in let h = a.0 in (omega arith, r)

-- distinct numbers below n are at most n
pub pigeon : (n : ℕ) (xs : List ℕ) → Distinct xs → All (λ x. x < n) xs → length xs ≤ n
pigeon zero [] d a = zero-le
pigeon zero (x ∷ xs) d a = absurd (not-suc-le-zero a.0)
pigeon (suc n) xs d a = le_trans (without-length n xs d) (suc-le-suc (pigeon n (without n xs) (without-distinct n xs d) (without-below n xs a)))

without_other : (y z : ℕ) (xs : List ℕ) → has z xs ≡ true → (z ≡ y → ⊥) → has z (without y xs) ≡ true
unfolding without has
without_other y z [] h d = h
without_other y z (x ∷ xs) h d = go (eqb y x) refl (eqb z x) refl h (λ q. without_other y z xs q d)
  where
    go : (a : Bool) → eqb y x ≡ a → (b : Bool) → eqb z x ≡ b → (b || has z xs) ≡ true → (has z xs ≡ true → has z (without y xs) ≡ true)
        → has z (cond a (without y xs) (x ∷ without y xs)) ≡ true
    go true e true q t r = absurd (d (eqb-true z x q ∙ sym (eqb-true y x e)))
    go true e false q t r = r t
    go false e true q t r = or_left (eqb z x) (has z (without y xs)) q
    go false e false q t r = or_right (eqb z x) (has z (without y xs)) (r t)

without_le : (y : ℕ) (xs : List ℕ) → length (without y xs) ≤ length xs
unfolding without
without_le y [] = zero-le
without_le y (x ∷ xs) = go (eqb y x) (without_le y xs)
  where
    go : (b : Bool) → length (without y xs) ≤ length xs → length (cond b (without y xs) (x ∷ without y xs)) ≤ suc (length xs)
    go true r = omega arith
    go false r = suc-le-suc r

without-less : (y : ℕ) (xs : List ℕ) → has y xs ≡ true → length (without y xs) < length xs
unfolding without has
without-less y [] h = absurd (false≢true h)
without-less y (x ∷ xs) h = go (eqb y x) h (without-less y xs)
  where
    go : (b : Bool) → (b || has y xs) ≡ true → (has y xs ≡ true → length (without y xs) < length xs)
        → length (cond b (without y xs) (x ∷ without y xs)) < suc (length xs)
    go true q r = suc-le-suc (without_le y xs)
    go false q r = suc-le-suc (r q)

-- a list that has each number below n is at least n long
pub cover : (n : ℕ) (xs : List ℕ) → ((i : ℕ) → i < n → has i xs ≡ true) → n ≤ length xs
cover zero xs h = zero-le
cover (suc n) xs h =
    le_trans (suc-le-suc (cover n (without n xs) (λ i k. without_other n i xs (h i (omega arith)) (λ e. omega arith)))) (without-less n xs (h n (omega arith)))

-- ---- tests and sums over the numbers below a count

pub all_ext : (n : ℕ) (a b : ℕ → Bool) → ((i : ℕ) → i < n → a i ≡ b i) → all_of n a ≡ all_of n b
unfolding all_of
all_ext zero a b h = refl
all_ext (suc n) a b h = rw (all_ext n a b (λ i k. h i (omega arith)), h n (omega arith)) refl

pub sum_ext : (n : ℕ) (a b : ℕ → ℕ) → ((i : ℕ) → i < n → a i ≡ b i) → sum_of n a ≡ sum_of n b
unfolding sum_of
sum_ext zero a b h = refl
sum_ext (suc n) a b h = omega (arith, sum_ext n a b (λ i k. h i (omega arith)), h n (omega arith))

pub sum_add : (n : ℕ) (a b : ℕ → ℕ) → sum_of n (λ j. a j + b j) ≡ sum_of n a + sum_of n b
unfolding sum_of
sum_add zero a b = refl
sum_add (suc n) a b = omega (arith, sum_add n a b)

-- two sums that differ at one number only
pub sum_point : (n i : ℕ) (a b : ℕ → ℕ) → i < n → ((j : ℕ) → j < n → (j ≡ i → ⊥) → a j ≡ b j) → sum_of n a + b i ≡ sum_of n b + a i
unfolding sum_of
sum_point zero i a b h e = absurd (not-suc-le-zero h)
sum_point (suc n) i a b h e =
    elim (ℕ_discrete i n) [
      | yes q ↦ rw q (omega (arith, sum_ext n a b (λ j k. e j (omega arith) (λ z. omega arith))))
      | no d ↦ omega (arith, sum_point n i a b (omega arith) (λ j k z. e j (omega arith) z), e n (omega arith) (λ z. d (sym z)))
    ]

-- how many numbers below n pass a test
pub those-length : (n : ℕ) (t : ℕ → Bool) → length (those n t) ≡ sum_of n (λ x. cond (t x) 1 0)
unfolding those sum_of
those-length zero t = refl
those-length (suc n) t = length-append (those n t) (cond (t n) (n ∷ []) []) ∙ go (t n) (those-length n t)
  where
    go : (b : Bool) → length (those n t) ≡ sum_of n (λ x. cond (t x) 1 0)
        → length (those n t) + length (cond b (n ∷ []) []) ≡ sum_of n (λ x. cond (t x) 1 0) + cond b 1 0
    go true e = omega arith
    go false e = omega arith
