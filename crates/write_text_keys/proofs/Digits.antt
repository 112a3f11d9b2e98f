-- One digit of a number in decimal, counted from its front.
use Prim.Native.Nat.{ℕ, suc, ◌+◌, ◌/◌, ◌%◌, ◌≤◌, ◌<◌}
use mathlib.Core.Path.{◌≡◌, ap}
use mathlib.Core.List.{[], ◌∷◌}
use native.Mathlib.Omega.{arith}
use native.Mathlib.Decide.{dec_lt}
use lib.ListN.{length, get_or, get_or-append}
use lib.Seq.{get_or_at}
use Rattle.texts.specs.Decimal.{digit, decimal}
use Rattle.texts.proofs.Decimal.{decimal_one, decimal-more, length_one, length_more}

-- more than one digit
pub many-digits : (n : ℕ) → 1 < length (decimal n) → 10 ≤ n
many-digits n h = by (dec_lt n 10)
  where
    by : Dec (n < 10) → 10 ≤ n
    by (yes l) = absurd (omega (arith, length_one n l))
    by (no g) = omega arith

-- a digit that is not the last one is one of the tenth
pub digit-before : (n i : ℕ) → suc i < length (decimal n) → (length (decimal n) ≡ length (decimal (n / 10)) + 1) × (get_or (decimal n) i 0 ≡ get_or (decimal (n / 10)) i 0)
digit-before n i h =
    let g = many-digits n (omega arith) in
    let l = length_more n g in
    (l, rw (decimal-more n g) (get_or-append (decimal (n / 10)) (digit (n % 10) ∷ []) 0 i (omega arith)))

-- the last one
pub digit-last : (n i : ℕ) → length (decimal n) ≡ suc i → get_or (decimal n) i 0 ≡ 48 + n % 10
digit-last n i e = by (dec_lt n 10)
  where
    by : Dec (n < 10) → get_or (decimal n) i 0 ≡ 48 + n % 10
    by (yes l) =
        let z : i ≡ 0 = omega (arith, length_one n l) in
        let m : n ≡ n % 10 = omega arith in
        rw (z, decimal_one n l) (ap (λ (k : ℕ). 48 + k) m)
    by (no g) =
        let h : 10 ≤ n = omega arith in
        rw (decimal-more n h) (get_or_at (decimal (n / 10)) (digit (n % 10)) [] 0 i (omega (arith, length_more n h)))
