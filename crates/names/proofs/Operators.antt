-- The operators and their names, one-to-one.
use Rattle.std.specs.Prelude.{Some}
use Prim.Native.Nat.{ℕ, ◌<◌}
use mathlib.Core.Path.{◌≡◌, refl}
use mathlib.Core.List.{List, []}
use lib.ListN.{get_or}
use Rattle.names.specs.Names.{operators, number_in, names}
use Rattle.names.specs.Spelling.{element_at}
use Rattle.names.specs.declared.native_function_call.Op.{Op}
use Rattle.names.specs.declared.native_function_call.Op.TheVariants.{Add, Subtract, Divide, Multiply, Mod, Negate, Equal, Greater, Less, GreaterThanOrEquals, LessThanOrEquals, NotEquals, Not, And, Or, Min, Max, Pow, Floor, Ceiling, Int, Float, Has, Hasnt, Intersect, ListMin, ListMax, All, Count, ValueOfList, Invert}
use Rattle.names.specs.NativeFunctionCall.{operator_number, ops}
use Rattle.names.proofs.Distinct.{distinct, number-placed, place-number}
use Rattle.names.proofs.Numbers.{Numbered, in_order, number-below}

told : (c : Op) → element_at ops (operator_number c) ≡ Some c
unfolding element_at ops
told Add = refl
told Subtract = refl
told Divide = refl
told Multiply = refl
told Mod = refl
told Negate = refl
told Equal = refl
told Greater = refl
told Less = refl
told GreaterThanOrEquals = refl
told LessThanOrEquals = refl
told NotEquals = refl
told Not = refl
told And = refl
told Or = refl
told Min = refl
told Max = refl
told Pow = refl
told Floor = refl
told Ceiling = refl
told Int = refl
told Float = refl
told Has = refl
told Hasnt = refl
told Intersect = refl
told ListMin = refl
told ListMax = refl
told All = refl
told Count = refl
told ValueOfList = refl
told Invert = refl

-- the operators, numbered
pub operators_numbered : Numbered operator_number ops operators
unfolding ops names distinct in_order
operators_numbered = record { told = told; ordered = refl; counts = refl; apart = refl }

pub below : (c : Op) → operator_number c < 31
unfolding names
below c = number-below operators_numbered c

-- one-to-one, in plain terms
pub name-number : (k : ℕ) → k < 31 → number_in operators (get_or operators k []) ≡ Some k
unfolding names
name-number k h = place-number operators operators_numbered.apart k h

pub number-name : (t : List ℕ) (k : ℕ) → number_in operators t ≡ Some k → (k < 31) × (t ≡ get_or operators k [])
unfolding names
number-name t k p = let w = number-placed operators t k p in (w.below, w.text)
