-- `views::view::text_kind` meets its contract.
use Rattle.views.proofs.Tags.{text-absent, text-present}
use mathlib.Core.Path.{refl, ◌∙◌}
use Rattle.views.proofs.view.text_kind.Goals as goal

pub returns-in_err-name : goal.returns-in_err-name
returns-in_err-name c = c.from_residual.ensures ∙ text-absent _ _ _ _ c.optional_text.ensures c.in_err-name.was refl

pub returns : goal.returns
returns c = text-present _ _ _ _ c.optional_text.ensures _ c.in_ok-name.was c.with_name.ensures
