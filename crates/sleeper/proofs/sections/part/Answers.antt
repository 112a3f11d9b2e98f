-- `sleeper::sections::part` meets its contract.
use native.Mathlib.Nat.{add-sub_cancel_left}
use Rattle.laws.proofs.Cases.{cases}
use Rattle.image.specs.Sections.{part_at}
use Rattle.image.specs.Header.{section_bytes}
use borrow.Author.Rules.{rules}
use Rattle.sleeper.proofs.sections.part.Goals as goal

pub returns : goal.returns
unfolding section_bytes part_at
returns c = search (cases, rules, add-sub_cancel_left)
