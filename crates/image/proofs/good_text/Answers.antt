-- `image::good_text` meets its contract.
use mathlib.Core.Path.{sym, ◌∙◌}
use native.Mathlib.Nat.{add-sub_cancel_left}
use Rattle.image.specs.Sections.{part_at}
use Rattle.image.proofs.Parts.{no_offset, no_length, good-inside, good-outside}
use borrow.Author.Rules.{rules}
use Rattle.image.proofs.good_text.Goals as goal

pub returns-then-offset-eq-NONE : goal.returns-then-offset-eq-NONE
returns-then-offset-eq-NONE c = sym (no_offset _ _ _ (search rules))

pub returns-then-len-eq-NONE : goal.returns-then-len-eq-NONE
returns-then-len-eq-NONE c = sym (no_length _ _ _ (search rules))

pub returns-then-end-strings : goal.returns-then-end-strings
unfolding part_at
returns-then-end-strings c =
    let at = c.args in
    rw add-sub_cancel_left at c.good_bytes.ensures
    ∙ sym (good-inside at.strings.now at.offset at.len (search rules) (search rules) (search rules))

pub returns-else-end-strings : goal.returns-else-end-strings
returns-else-end-strings c = sym (good-outside _ _ _ (search rules))
