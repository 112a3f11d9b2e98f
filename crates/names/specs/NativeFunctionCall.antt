-- The operators, numbered in the order of their names.
use Rattle.std.specs.Prelude.{ℕ, List, [], ◌∷◌, Option}
use Rattle.names.specs.Names.{operators}
use Rattle.names.specs.Spelling.{element_named}
use Rattle.names.specs.declared.native_function_call.Op.{Op}
use Rattle.names.specs.declared.native_function_call.Op.TheVariants.{Add, Subtract, Divide, Multiply, Mod, Negate, Equal, Greater, Less, GreaterThanOrEquals, LessThanOrEquals, NotEquals, Not, And, Or, Min, Max, Pow, Floor, Ceiling, Int, Float, Has, Hasnt, Intersect, ListMin, ListMax, All, Count, ValueOfList, Invert}

-- the place of the operator's name in the list
abbrev pub operator_number : Op → ℕ
operator_number Add = 0
operator_number Subtract = 1
operator_number Divide = 2
operator_number Multiply = 3
operator_number Mod = 4
operator_number Negate = 5
operator_number Equal = 6
operator_number Greater = 7
operator_number Less = 8
operator_number GreaterThanOrEquals = 9
operator_number LessThanOrEquals = 10
operator_number NotEquals = 11
operator_number Not = 12
operator_number And = 13
operator_number Or = 14
operator_number Min = 15
operator_number Max = 16
operator_number Pow = 17
operator_number Floor = 18
operator_number Ceiling = 19
operator_number Int = 20
operator_number Float = 21
operator_number Has = 22
operator_number Hasnt = 23
operator_number Intersect = 24
operator_number ListMin = 25
operator_number ListMax = 26
operator_number All = 27
operator_number Count = 28
operator_number ValueOfList = 29
operator_number Invert = 30

-- in the order of their numbers
unfoldable pub ops : List Op
ops =
    Add ∷ Subtract ∷ Divide ∷ Multiply ∷ Mod ∷ Negate ∷ Equal ∷ Greater ∷ Less ∷ GreaterThanOrEquals ∷ LessThanOrEquals ∷ NotEquals ∷ Not ∷ And ∷ Or
    ∷ Min ∷ Max ∷ Pow ∷ Floor ∷ Ceiling ∷ Int ∷ Float ∷ Has ∷ Hasnt ∷ Intersect ∷ ListMin ∷ ListMax ∷ All ∷ Count ∷ ValueOfList ∷ Invert ∷ []

-- the operator that a text names
abbrev pub operator_named : List ℕ → Option Op
operator_named t = element_named ops operators t
