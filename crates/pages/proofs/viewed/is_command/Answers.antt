-- `pages::viewed::is_command` meets its contract.
use Rattle.std.specs.Prelude.{Option, Some, None, is_some}
use mathlib.Core.Path.{◌≡◌, refl, ap, ◌∙◌}
use Rattle.names.specs.declared.control_command.CommandType.{CommandType}
use Rattle.views.specs.View.{of_command}
use Rattle.views.specs.Shown.{command_view}
use Rattle.pages.specs.Viewed.{has_kind}
use Rattle.pages.proofs.viewed.is_command.Goals as goal

told : (r : Option CommandType) → is_some r ≡ has_kind (of_command r)
told (Some k) = refl
told None = refl

pub returns : goal.returns
unfolding command_view
returns c = c.is_some.ensures ∙ told _ ∙ ap (λ r. has_kind (of_command r)) c.new_from_name.ensures
