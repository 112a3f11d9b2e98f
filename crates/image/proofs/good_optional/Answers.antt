-- `image::good_optional` meets its contract.
use mathlib.Core.Path.{sym, ◌∙◌}
use Rattle.image.proofs.Parts.{optional-present, optional-absent, optional_half}
use borrow.Author.Rules.{rules}
use Rattle.image.proofs.good_optional.Goals as goal

pub returns-then-offset-ne-NONE : goal.returns-then-offset-ne-NONE
returns-then-offset-ne-NONE c =
    let at = c.args in
    c.good_within.ensures ∙ sym (optional-present at.strings.now at.offset at.len (search rules))

pub returns-then-len-eq-NONE : goal.returns-then-len-eq-NONE
returns-then-len-eq-NONE c =
    let at = c.args in sym (optional-absent at.strings.now at.offset at.len (search rules) (search rules))

pub returns-else-len-eq-NONE : goal.returns-else-len-eq-NONE
returns-else-len-eq-NONE c =
    let at = c.args in sym (optional_half at.strings.now at.offset at.len (search rules) (search rules))
