-- `pages::viewed::is_operator` meets its contract.
use Rattle.std.specs.Prelude.{Option, Some, None, is_some}
use mathlib.Core.Path.{◌≡◌, refl, ap, ◌∙◌}
use Rattle.names.specs.declared.native_function_call.Op.{Op}
use Rattle.views.specs.View.{of_operator}
use Rattle.views.specs.Shown.{operator_view}
use Rattle.pages.specs.Viewed.{has_kind}
use Rattle.pages.proofs.viewed.is_operator.Goals as goal

told : (r : Option Op) → is_some r ≡ has_kind (of_operator r)
told (Some k) = refl
told None = refl

pub returns : goal.returns
unfolding operator_view
returns c = c.is_some.ensures ∙ told _ ∙ ap (λ r. has_kind (of_operator r)) c.new_from_name.ensures
