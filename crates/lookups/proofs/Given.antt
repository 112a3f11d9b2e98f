-- A list item's answer is known by its number and value.
use Rattle.std.specs.Prelude.{None, Option, Some}
use mathlib.Core.Path.{◌≡◌, refl, ap}
use native.Mathlib.Omega.{arith}
use Rattle.views.specs.Answers.{given}
use Rattle.views.proofs.Given.{given-equal, given-refused}
use Rattle.lookups.specs.declared.ListItem.{ListItem}
use Rattle.lookups.specs.Answers.{of_list_item}

pub listed-given : (r : Option ListItem) (i : ListItem) → of_list_item r ≡ given i → r ≡ Some i
listed-given (Some j) i e = ap Some (given-equal j i e)
listed-given None i e = absurd (given-refused 17 i e)

pub listed-refused : (r : Option ListItem) → (of_list_item r).number ≡ 18 → r ≡ None
listed-refused (Some j) e = absurd (omega arith)
listed-refused None e = refl
