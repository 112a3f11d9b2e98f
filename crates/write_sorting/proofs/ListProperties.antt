-- What holds of each element of a list, or of each and every later one, and that a sort keeps it.
use Prim.Native.Nat.{ℕ, zero, suc, ◌<◌}
use mathlib.Core.Path.{◌≡◌, refl}
use mathlib.Core.List.{List, [], ◌∷◌}
use mathlib.Core.Bool.{Bool}
use native.Mathlib.Omega.{arith}
use lib.ListN.{length, get_or}
use Rattle.laws.specs.Sorted.{insert, isort}
use Rattle.laws.proofs.Members.{All}
use Rattle.laws.proofs.Sorted.{all_insert, all_isort}
use Rattle.write_sorting.proofs.Laws.{cases}

-- R of each element and every later one
abbrev pub Pairs : (ℕ → ℕ → Type 0) → List ℕ → Type 0
Pairs R [] = Unit {0}
Pairs R (x ∷ xs) = All (R x) xs × Pairs R xs

pub data In (k : ℕ) : List ℕ → Type 0 where
  here : {xs : List ℕ} → In k (k ∷ xs)
  there : {x : ℕ} {xs : List ℕ} → In k xs → In k (x ∷ xs)

pub all_map : {P Q : ℕ → Type 0} → ((x : ℕ) → P x → Q x) → (l : List ℕ) → All P l → All Q l
all_map f [] a = tt
all_map f (x ∷ xs) a = (f x a.0, all_map f xs a.1)

-- ---- by the place

pub all_at : (P : ℕ → Type 0) (l : List ℕ) → All P l → (i : ℕ) → i < length l → P (get_or l i 0)
all_at P [] a i h = absurd (omega arith)
all_at P (x ∷ xs) a zero h = a.0
all_at P (x ∷ xs) a (suc i) h = all_at P xs a.1 i (omega arith)

pub at_all : (P : ℕ → Type 0) (l : List ℕ) → ((i : ℕ) → i < length l → P (get_or l i 0)) → All P l
at_all P [] f = tt
at_all P (x ∷ xs) f = (f 0 (omega arith), at_all P xs (λ i h. f (suc i) (omega arith)))

pub pairs_at : (R : ℕ → ℕ → Type 0) (l : List ℕ) → Pairs R l → (i j : ℕ) → i < j → j < length l → R (get_or l i 0) (get_or l j 0)
pairs_at R [] s i j h k = absurd (omega arith)
pairs_at R (x ∷ xs) s i zero h k = absurd (omega arith)
pairs_at R (x ∷ xs) s zero (suc j) h k = all_at (R x) xs s.0 j (omega arith)
pairs_at R (x ∷ xs) s (suc i) (suc j) h k = pairs_at R xs s.1 i j (omega arith) (omega arith)

pub at_pairs : (R : ℕ → ℕ → Type 0) (l : List ℕ) → ((i j : ℕ) → i < j → j < length l → R (get_or l i 0) (get_or l j 0)) → Pairs R l
at_pairs R [] f = tt
at_pairs R (x ∷ xs) f = (at_all (R x) xs (λ j h. f 0 (suc j) (omega arith) (omega arith)), at_pairs R xs (λ i j h k. f (suc i) (suc j) (omega arith) (omega arith)))

-- from neighbours to all pairs, where R is passed on
pub chain : (R : ℕ → ℕ → Type 0) → ((a b c : ℕ) → R a b → R b c → R a c) → (l : List ℕ) → ((i : ℕ) → suc i < length l → R (get_or l i 0) (get_or l (suc i) 0)) → Pairs R l
chain R t [] f = tt
chain R t (x ∷ []) f = (tt, tt)
chain R t (x ∷ y ∷ l) f =
    let r = chain R t (y ∷ l) (λ i h. f (suc i) (omega arith)) in
    let e = f 0 (omega arith) in ((e, all_map (λ z. t x y z e) l r.0), r)

pub in_at : (k : ℕ) (l : List ℕ) → In k l → (i : ℕ) × (i < length l) × (get_or l i 0 ≡ k)
in_at k l here = (0, omega arith, refl)
in_at k l (there {xs = xs} m) = (suc (in_at k xs m).0, omega (arith, (in_at k xs m).1), (in_at k xs m).2)

-- ---- a sort has the same elements

module _ (lt : ℕ → ℕ → Bool) where
  pub insert_all : (P : ℕ → Type 0) (x : ℕ) (l : List ℕ) → All P (insert lt x l) → P x × All P l
  unfolding insert
  insert_all P x [] a = a
  insert_all P x (y ∷ ys) a =
      cases (lt y x)
      (λ e. let b = rw e at a in let r = insert_all P x ys b.1 in (r.0, (b.0, r.1)))
      (λ e. rw e at a)

  in_new : (x : ℕ) (l : List ℕ) → In x (insert lt x l)
  unfolding insert
  in_new x [] = here
  in_new x (y ∷ ys) = cases (lt y x) (λ e. rw e (there (in_new x ys))) (λ e. rw e here)

  in_old : (k x : ℕ) (l : List ℕ) → In k l → In k (insert lt x l)
  unfolding insert
  in_old k x l (here {xs = ys}) = cases (lt k x) (λ e. rw e here) (λ e. rw e (there here))
  in_old k x l (there {x = y} {xs = ys} m) = cases (lt y x) (λ e. rw e (there (in_old k x ys m))) (λ e. rw e (there (there m)))

  pub in_isort : (k : ℕ) (l : List ℕ) → In k l → In k (isort lt l)
  unfolding isort
  in_isort k l (here {xs = ys}) = in_new k (isort lt ys)
  in_isort k l (there {x = y} {xs = ys} m) = in_old k y (isort lt ys) (in_isort k ys m)

  -- a relation that goes both ways holds of the pairs of a list where it does of those of its sort
  module _ (R : ℕ → ℕ → Type 0) (turn : (a b : ℕ) → R a b → R b a) where
    pairs_insert : (x : ℕ) (l : List ℕ) → All (R x) l → Pairs R l → Pairs R (insert lt x l)
    unfolding insert
    pairs_insert x [] a s = (tt, tt)
    pairs_insert x (y ∷ ys) a s =
        cases (lt y x)
        (λ e. rw e (all_insert lt (R y) x ys (turn x y a.0) s.0, pairs_insert x ys a.1 s.1))
        (λ e. rw e (a, s))

    insert_pairs : (x : ℕ) (l : List ℕ) → Pairs R (insert lt x l) → All (R x) l × Pairs R l
    unfolding insert
    insert_pairs x [] s = (tt, tt)
    insert_pairs x (y ∷ ys) s =
        cases (lt y x)
        (λ e.
        let b = rw e at s in
        let r = insert_pairs x ys b.1 in
        let q = insert_all (R y) x ys b.0 in ((turn y x q.0, r.0), (q.1, r.1)))
        (λ e. rw e at s)

    pub pairs_isort : (l : List ℕ) → Pairs R l → Pairs R (isort lt l)
    unfolding isort
    pairs_isort [] s = tt
    pairs_isort (x ∷ xs) s = pairs_insert x (isort lt xs) (all_isort lt (R x) xs s.0) (pairs_isort xs s.1)

    pub isort_pairs : (l : List ℕ) → Pairs R (isort lt l) → Pairs R l
    unfolding isort
    isort_pairs [] s = tt
    isort_pairs (x ∷ xs) s = let r = insert_pairs x (isort lt xs) s in (isort_all (R x) xs r.0, isort_pairs xs r.1)
      where
        isort_all : (P : ℕ → Type 0) (l : List ℕ) → All P (isort lt l) → All P l
        isort_all P [] a = tt
        isort_all P (y ∷ ys) a = let r = insert_all P y (isort lt ys) a in (r.0, isort_all P ys r.1)
