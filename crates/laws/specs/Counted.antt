-- Sums, tests and lists over the numbers below a count: one turn of a loop adds one term at the end.
use Rattle.std.specs.Prelude.{ℕ, zero, suc, ◌+◌, Bool, true, cond, ◌&&◌, List, [], ◌∷◌, ◌++◌, None, Option, Some}

-- f 0 + .. + f (n - 1)
unfoldable pub sum_of : ℕ → (ℕ → ℕ) → ℕ
sum_of zero f = 0
sum_of (suc n) f = sum_of n f + f n

-- the test passes at 0, .., n - 1
unfoldable pub all_of : ℕ → (ℕ → Bool) → Bool
all_of zero f = true
all_of (suc n) f = let b = f n in all_of n f && b

-- f 0 ++ .. ++ f (n - 1)
unfoldable pub join_of {ℓ} : {X : Type ℓ} → ℕ → (ℕ → List X) → List X
join_of zero f = []
join_of (suc n) f = join_of n f ++ f n

-- the numbers below n that pass the test, in order
unfoldable pub those : ℕ → (ℕ → Bool) → List ℕ
those zero f = []
those (suc n) f = those n f ++ cond (f n) (n ∷ []) []

-- the last number below n that passes the test
unfoldable pub last_of : ℕ → (ℕ → Bool) → Option ℕ
last_of zero t = None
last_of (suc n) t = let r = last_of n t in cond (t n) (Some n) r

-- names on an `unfolding` line what a computation with this module needs
unfoldable pub counted : Unit {0}
unfolding sum_of all_of join_of those last_of
counted = tt
