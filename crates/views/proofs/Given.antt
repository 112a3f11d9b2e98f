-- Answers by their numbers and values: each enum's answer is known by them.
use Rattle.std.specs.Prelude.{None, Option, Some, ℕ}
use Prim.Native.Nat.{ℕ, suc}
use mathlib.Core.Path.{◌≡◌, refl, ap}
use Rattle.std.proofs.lemmas.Option.{same_Some}
use native.Mathlib.Omega.{arith}
use Rattle.views.specs.Answers.{Answer, given, refused, of_node, of_found, of_count}
use Rattle.views.specs.declared.NodeView.{NodeView}

module _ {A : Type 0} where
  -- a value that is given is the one
  pub given-equal : (x y : A) → given x ≡ given y → x ≡ y
  given-equal x y e = same_Some x y (ap (λ (a : Answer A). a.value) e)

  -- nothing is both given and refused
  pub given-refused : (n : ℕ) (x : A) → refused (suc n) ≡ given x → ⊥
  given-refused n x e = let z : suc n ≡ 0 = ap (λ (a : Answer A). a.number) e in omega arith

-- ---- one enum after the other

pub node-refused : (r : Option NodeView) → (of_node r).number ≡ 18 → r ≡ None
node-refused (Some v) e = absurd (omega arith)
node-refused None e = refl

pub found-given : (r : Option ℕ) (n : ℕ) → of_found r ≡ given n → r ≡ Some n
found-given (Some m) n e = ap Some (given-equal m n e)
found-given None n e = absurd (given-refused 17 n e)

pub found-refused : (r : Option ℕ) → (of_found r).number ≡ 18 → r ≡ None
found-refused (Some m) e = absurd (omega arith)
found-refused None e = refl

pub count-given : (r : Option ℕ) (n : ℕ) → of_count r ≡ given n → r ≡ Some n
count-given (Some m) n e = ap Some (given-equal m n e)
count-given None n e = absurd (given-refused 17 n e)

pub count-refused : (r : Option ℕ) → (of_count r).number ≡ 18 → r ≡ None
count-refused (Some m) e = absurd (omega arith)
count-refused None e = refl
