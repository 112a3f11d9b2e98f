-- A text split at its first dot.
use Rattle.std.specs.Prelude.{ℕ, suc, List, [], ◌∷◌, Bool, cond, length, take, drop, eqb, ltb}

abbrev pub dot : ℕ
dot = 46

-- where the first dot stands, or the text's length
unfoldable pub first_dot : List ℕ → ℕ
first_dot [] = 0
first_dot (b ∷ t) = let r = first_dot t in cond (eqb b dot) 0 (suc r)

abbrev pub has_dot : List ℕ → Bool
has_dot t = ltb (first_dot t) (length t)

-- what stands before the first dot, and after it
unfoldable pub before_dot : List ℕ → List ℕ
before_dot t = take (first_dot t) t

unfoldable pub after_dot : List ℕ → List ℕ
after_dot t = drop (suc (first_dot t)) t

-- names on an `unfolding` line what a computation with this module needs
unfoldable pub dots : Unit {0}
unfolding first_dot before_dot after_dot
dots = tt
