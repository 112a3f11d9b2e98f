-- A number in decimal, with no zero in front.
use Rattle.std.specs.Prelude.{ℕ, zero, suc, ◌+◌, ◌/◌, ◌%◌, List, [], ◌∷◌, ◌++◌, cond, ltb}

-- the byte of a digit
abbrev pub digit : ℕ → ℕ
digit n = 48 + n

-- the first argument bounds the number of digits before the last
unfoldable pub digits : ℕ → ℕ → List ℕ
digits zero n = digit n ∷ []
digits (suc k) n = let front = digits k (n / 10) in cond (ltb n 10) (digit n ∷ []) (front ++ (digit (n % 10) ∷ []))

abbrev pub decimal : ℕ → List ℕ
decimal n = digits n n

-- names on an `unfolding` line what a computation with this module needs
unfoldable pub decimals : Unit {0}
unfolding digits
decimals = tt
