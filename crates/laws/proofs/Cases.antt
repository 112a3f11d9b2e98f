-- What a definition by tests gives, one test at a time, by the test that the code made: `search cases depth 12` closes a return's need.
use mathlib.Core.Path.{◌≡◌}
use mathlib.Core.Bool.{Bool, true, false, not, cond, ◌&&◌, ◌||◌}
use Prim.Native.Nat.{ℕ, suc, ◌≤◌, ◌<◌}
use lib.Dec.{leb, ltb, eqb}
use borrow.Author.Tests.{le-ltb, lt-ltb, le-leb, lt-leb, eq-eqb, ne_eqb, not-true, not-false, leb-true, ltb-true}
use native.Mathlib.Omega.{arith}
use mathlib.Core.Logic.{inl, inr}

module _ {A : Type 0} where
  -- the test is a flag r that a call gave
  pub flag_yes : (t r : Bool) (a b v : A) → r ≡ t → r ≡ true → v ≡ a → v ≡ cond t a b
  flag_yes t r a b v e h q = rw (← e, h) q

  pub flag_no : (t r : Bool) (a b v : A) → r ≡ t → r ≡ false → v ≡ b → v ≡ cond t a b
  flag_no t r a b v e h q = rw (← e, h) q

  pub flag-not_no : (t r : Bool) (a b v : A) → r ≡ t → not r ≡ true → v ≡ b → v ≡ cond t a b
  flag-not_no t r a b v e h q = flag_no t r a b v e (not-true r h) q

  pub flag-not_yes : (t r : Bool) (a b v : A) → r ≡ t → not r ≡ false → v ≡ a → v ≡ cond t a b
  flag-not_yes t r a b v e h q = flag_yes t r a b v e (not-false r h) q

  -- the test is a comparison
  pub lt_yes : (x y : ℕ) (a b v : A) → x < y → v ≡ a → v ≡ cond (ltb x y) a b
  lt_yes x y a b v h q = rw (lt-ltb x y h) q

  pub lt_no : (x y : ℕ) (a b v : A) → y ≤ x → v ≡ b → v ≡ cond (ltb x y) a b
  lt_no x y a b v h q = rw (le-ltb x y h) q

  pub le_yes : (x y : ℕ) (a b v : A) → x ≤ y → v ≡ a → v ≡ cond (leb x y) a b
  le_yes x y a b v h q = rw (le-leb x y h) q

  pub le_no : (x y : ℕ) (a b v : A) → y < x → v ≡ b → v ≡ cond (leb x y) a b
  le_no x y a b v h q = rw (lt-leb x y h) q

  pub eq_yes : (x y : ℕ) (a b v : A) → x ≡ y → v ≡ a → v ≡ cond (eqb x y) a b
  eq_yes x y a b v h q = rw (eq-eqb x y h) q

  pub eq_no : (x y : ℕ) (a b v : A) → (x ≡ y → ⊥) → v ≡ b → v ≡ cond (eqb x y) a b
  eq_no x y a b v h q = rw (ne_eqb x y h) q

  -- the number is another literal
  pub eq_other : (x y m : ℕ) (a b v : A) → x ≡ m → eqb m y ≡ false → v ≡ b → v ≡ cond (eqb x y) a b
  eq_other x y m a b v e h q = rw (e, h) q

  -- a test of two
  pub and_split : (t u : Bool) (a b v : A) → v ≡ cond t (cond u a b) b → v ≡ cond (t && u) a b
  and_split true u a b v q = q
  and_split false u a b v q = q

  pub or_split : (t u : Bool) (a b v : A) → v ≡ cond t a (cond u a b) → v ≡ cond (t || u) a b
  or_split true u a b v q = q
  or_split false u a b v q = q

  pub not-split : (t : Bool) (a b v : A) → v ≡ cond t b a → v ≡ cond (not t) a b
  not-split true a b v q = q
  not-split false a b v q = q

  -- the number lies on a side of a literal m
  pub eq_less : (x y m : ℕ) (a b v : A) → x < m → leb m y ≡ true → v ≡ b → v ≡ cond (eqb x y) a b
  eq_less x y m a b v h e q = let k = leb-true m y e in rw (ne_eqb x y (λ p. omega arith)) q

  pub eq_more : (x y m : ℕ) (a b v : A) → m ≤ x → ltb y m ≡ true → v ≡ b → v ≡ cond (eqb x y) a b
  eq_more x y m a b v h e q = let k = ltb-true y m e in rw (ne_eqb x y (λ p. omega arith)) q

  pub le_less : (x y m : ℕ) (a b v : A) → x < m → leb m (suc y) ≡ true → v ≡ a → v ≡ cond (leb x y) a b
  le_less x y m a b v h e q = let k = leb-true m (suc y) e in rw (le-leb x y (omega arith)) q

  pub le_more : (x y m : ℕ) (a b v : A) → m ≤ x → ltb y m ≡ true → v ≡ b → v ≡ cond (leb x y) a b
  le_more x y m a b v h e q = let k = ltb-true y m e in rw (lt-leb x y (omega arith)) q

  pub le_under : (x y m : ℕ) (a b v : A) → y < m → leb m x ≡ true → v ≡ b → v ≡ cond (leb x y) a b
  le_under x y m a b v h e q = let k = leb-true m x e in rw (lt-leb x y (omega arith)) q

  pub le_over : (x y m : ℕ) (a b v : A) → m ≤ y → leb x m ≡ true → v ≡ a → v ≡ cond (leb x y) a b
  le_over x y m a b v h e q = let k = leb-true x m e in rw (le-leb x y (omega arith)) q

pub ruleset literal-cases = (eq_other, eq_less, eq_more, le_less, le_more, le_under, le_over, and_split, or_split, not-split, eq_yes, eq_no, inl, inr)

pub ruleset cases = (lt_yes, lt_no, le_yes, le_no, eq_yes, eq_no, eq_other, flag_yes, flag_no, flag-not_no, flag-not_yes, and_split, or_split, not-split)
