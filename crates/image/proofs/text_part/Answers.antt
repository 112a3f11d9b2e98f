-- `image::text_part` meets its contract.
use native.Mathlib.Nat.{add-sub_cancel_left}
use Rattle.laws.proofs.Cases.{cases}
use Rattle.image.specs.Sections.{part_at, text_or_empty}
use borrow.Author.Rules.{rules}
use Rattle.image.proofs.text_part.Goals as goal

pub returns-then-end-strings : goal.returns-then-end-strings
unfolding text_or_empty part_at
returns-then-end-strings c = search (cases, rules, add-sub_cancel_left)

pub returns-else-end-strings : goal.returns-else-end-strings
unfolding text_or_empty part_at
returns-else-end-strings c = search (cases, rules)
