-- Whether there is a view: of a kind as it is viewed, and of a text by the tag. Laws tie the latter to the views; it need not be believed.
use Rattle.std.specs.Prelude.{ℕ, List, Bool, true, false, cond, length, eqb, None, Option, Some}
use Rattle.image.specs.Sections.{text_or_empty}
use Rattle.image.specs.Tags.{command_tag, operator_tag}
use Rattle.views.specs.View.{shown}
use Rattle.views.specs.Shown.{command_view, operator_view}
use Rattle.views.specs.declared.NodeKindView.{NodeKindView}

abbrev pub has_kind : Option NodeKindView → Bool
has_kind (Some k) = true
has_kind None = false

-- a text that a kind may be made of: of a command and of an operator its name
unfoldable pub fits_tag : ℕ → List ℕ → Bool
fits_tag tag t = cond (eqb tag command_tag) (has_kind (command_view t)) (cond (eqb tag operator_tag) (has_kind (operator_view t)) true)

-- the same, where the text is present and inside
unfoldable pub text_fits : ℕ → ℕ → ℕ → List ℕ → Bool
text_fits tag at len strings = cond (shown (length strings) at len) (fits_tag tag (text_or_empty strings at len)) false
