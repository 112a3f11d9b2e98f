-- `image::text_bytes` meets its contract.
use mathlib.Core.Path.{sym}
use native.Mathlib.Nat.{add-sub_cancel_left}
use Rattle.image.specs.Sections.{part_at}
use Rattle.image.proofs.Parts.{text_to_end, text-past}
use borrow.Author.Rules.{rules}
use Rattle.image.proofs.text_bytes.Goals as goal

pub returns-then-end-strings : goal.returns-then-end-strings
unfolding part_at
returns-then-end-strings c = rw add-sub_cancel_left

pub returns-then-start-strings : goal.returns-then-start-strings
returns-then-start-strings c = sym (text_to_end _ _ _ (search rules))

pub returns-else-start-strings : goal.returns-else-start-strings
returns-else-start-strings c = sym (text-past _ _ _ (search rules))
