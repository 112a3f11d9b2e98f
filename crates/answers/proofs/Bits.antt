-- The bits of a signed number, by its sign.
use Prim.Native.Nat.{ℕ, suc, ◌-◌, ◌<◌}
use mathlib.Core.Path.{◌≡◌, refl, sym, ap, ◌∙◌, subst}
use mathlib.Core.Bool.{Bool, true, false, cond, true≢false}
use native.Mathlib.Omega.{arith}
use lib.IntN.{ℤ, pos, negsuc, ◌-ℤ◌, nat_abs}
use lib.Dec.{T}
use lib.Signed.{non_neg, lt_z, mag}
use borrow.Author.Tests.{le-ltb}
use mir.Val.{to_z, of_z, Fits, SFits}
use mir.Facts.{to_z-of_z}
use mir.Syntax.{w32}
use Rattle.answers.specs.AnswerWords.{unsigned}

-- a number below 0, and what the code makes of it
pub record Negative (z : ℤ) : Type 0 where
  pub at : ℕ
  pub is : z ≡ negsuc at
  pub small : at < 2147483648

negative_by : (z : ℤ) → SFits w32 z → lt_z z (pos 0) ≡ true → Negative z
negative_by (pos n) f h = absurd (true≢false (sym h ∙ le-ltb n 0 (omega arith)))
negative_by (negsuc n) f h = record { at = n; is = refl; small = f.sfits }

pub negative : (z : ℤ) → SFits w32 z → lt_z (to_z w32 (of_z w32 z)) (pos 0) ≡ true → Negative z
negative z f h = negative_by z f (subst (λ (y : ℤ). lt_z y (pos 0) ≡ true) (to_z-of_z f) h)

rest_of : (m : ℕ) → negsuc 0 -ℤ negsuc m ≡ pos m
rest_of m = ap (λ (b : Bool). cond b (negsuc (1 - suc (suc m))) (pos (suc m - 1))) (le-ltb (suc m) 1 (omega arith)) ∙ ap pos (omega arith)

module _ (z : ℤ) (f : SFits w32 z) (n : Negative z) where
  rest_is : negsuc 0 -ℤ to_z w32 (of_z w32 z) ≡ pos n.at
  rest_is = ap (λ (y : ℤ). negsuc 0 -ℤ y) (to_z-of_z f ∙ n.is) ∙ rest_of n.at

  pub rest-fits : SFits w32 (negsuc 0 -ℤ to_z w32 (of_z w32 z))
  rest-fits = subst (λ (y : ℤ). SFits w32 y) (sym rest_is) (record { sfits = n.small })

  pub rest_back : to_z w32 (of_z w32 (negsuc 0 -ℤ to_z w32 (of_z w32 z))) ≡ pos n.at
  rest_back = to_z-of_z rest-fits ∙ rest_is

  pub below-bits : 4294967295 - n.at ≡ of_z w32 z
  below-bits = rw n.is (omega arith)

-- a number from 0 on
pub record Counting (z : ℤ) : Type 0 where
  pub at : ℕ
  pub is : z ≡ pos at
  pub small : at < 2147483648

counting_by : (z : ℤ) → SFits w32 z → lt_z z (pos 0) ≡ false → Counting z
counting_by (pos n) f h = record { at = n; is = refl; small = f.sfits }
counting_by (negsuc n) f h = absurd (true≢false h)

pub counting : (z : ℤ) → SFits w32 z → lt_z (to_z w32 (of_z w32 z)) (pos 0) ≡ false → Counting z
counting z f h = counting_by z f (subst (λ (y : ℤ). lt_z y (pos 0) ≡ false) (to_z-of_z f) h)

module _ (z : ℤ) (f : SFits w32 z) (n : Counting z) where
  pub same_back : to_z w32 (of_z w32 z) ≡ pos n.at
  same_back = to_z-of_z f ∙ n.is

  pub above-bits : n.at ≡ of_z w32 z
  above-bits = rw n.is

-- what a cast of a number from 0 on asks
pub cast_fits : (z : ℤ) (m : ℕ) → z ≡ pos m → m < 2147483648 → T (non_neg z) × Fits w32 (nat_abs z)
cast_fits z m e h = rw e (tt, record { fits = omega arith })

-- a signed field is read back from its bits
pub field_bits : (z : ℤ) (r : ℕ) → mag z < 2147483648 → r ≡ unsigned (to_z w32 (of_z w32 z)) → r ≡ unsigned z
field_bits z r h e = e ∙ ap unsigned (to_z-of_z {w = w32} {z = z} (record { sfits = h }))
