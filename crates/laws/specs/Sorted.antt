-- Sorting a list of numbers by a test `lt a b`, that a comes before b. `isort` is the meaning of a sort: by insertion, and stable.
use Rattle.std.specs.Prelude.{ℕ, List, [], ◌∷◌, Bool, cond}

-- x goes before the first element that is not below it
unfoldable pub insert : (ℕ → ℕ → Bool) → ℕ → List ℕ → List ℕ
insert lt x [] = x ∷ []
insert lt x (y ∷ ys) = let r = insert lt x ys in cond (lt y x) (y ∷ r) (x ∷ y ∷ ys)

unfoldable pub isort : (ℕ → ℕ → Bool) → List ℕ → List ℕ
isort lt [] = []
isort lt (x ∷ xs) = insert lt x (isort lt xs)

-- names on an `unfolding` line what a computation with this module needs
unfoldable pub insertions : Unit {0}
unfolding insert isort
insertions = tt
